-- What the calls do to one station.
use Rattle.std.specs.Prelude.{ℕ, suc, ◌-◌, ◌/◌, Bool, true, false, if◌then◌else◌, ◌&&◌, ℤ, pos, negsuc, ◌+ℤ◌, ◌-ℤ◌, Some, None, Option, nat_le}
use Rattle.units.specs.declared.head.Head.{Head}
use Rattle.units.specs.declared.head.Head.TheVariants.{File, Declare, Issue, Revise, Close, Read, Settle, Correct}
use Rattle.book.specs.declared.station.Station.{Station}
use Rattle.book.specs.declared.station.balance.Balance.{Balance}
use Rattle.book.specs.declared.station.stage.Stage.{Stage}
use Rattle.posting.specs.declared.members.Members.{Members}
use Rattle.std.specs.Option.{unwrap_or}
use Rattle.units.specs.Bits.{with_span}
use Rattle.units.specs.declared.bits.BitSet.{BitSet}
use Rattle.units.specs.declared.limits.TheConstants.{FIRST_SOLAR_NOTICE, LAST_NOTICE, LAST_SOLAR_NOTICE, SLOT_BLOCKS}
use Rattle.units.specs.declared.station.Kind.{Kind}
use Rattle.units.specs.declared.station.Kind.TheVariants.{Wind, Solar}
use Rattle.units.specs.declared.station.Phase.{Phase}
use Rattle.units.specs.declared.station.Phase.TheVariants.{Filing, Running, Metering, Settled}

-- Which calls a station takes in its phase, and the phase that they lead to.
abbrev pub moves : Phase → Head → Option Phase
moves Filing File = Some Filing
moves Filing Declare = Some Filing
moves Filing Issue = Some Running
moves Running Declare = Some Running
moves Running Revise = Some Running
moves Running Close = Some Metering
moves Metering Read = Some Metering
moves Metering Settle = Some Settled
moves Settled Correct = Some Settled
moves phase action = None

-- the phase in which charges and shares stand
abbrev pub is_settled : Phase → Bool
is_settled Settled = true
is_settled Filing = false
is_settled Running = false
is_settled Metering = false

-- A block's charge and shares may be asked for where a reading may be corrected.
abbrev pub Ask : Head
Ask = Correct

-- In which slot a notice in block n falls, in a block in which it may be given.
abbrev pub slot_of : Kind → ℕ → Option ℕ
slot_of Wind n = if nat_le n LAST_NOTICE then Some (n / SLOT_BLOCKS) else None
slot_of Solar n =
    if nat_le FIRST_SOLAR_NOTICE n && nat_le n LAST_SOLAR_NOTICE then Some ((n - FIRST_SOLAR_NOTICE) / SLOT_BLOCKS) else None

abbrev pub none_of : BitSet
none_of = record { bits = 0 }

-- a station as its day begins
abbrev pub fresh : Kind → Members → Station
fresh kind members = record {
  plant = record { kind = kind; members = members };
  stage = record { phase = Filing; filed = none_of; slots = none_of };
  balance = record { charges = pos 0; net = pos 0 };
}

-- one part of a station changed

abbrev pub on_stage : (Stage → Stage) → Station → Station
on_stage f x = record x { stage = f x.stage }

abbrev pub on_balance : (Balance → Balance) → Station → Station
on_balance f x = record x { balance = f x.balance }

-- how far the day is

-- the phase that an action leads to
abbrev pub moved : Head → Stage → Stage
moved a s = record s { phase = unwrap_or (moves s.phase a) s.phase }

abbrev pub filed_on : ℕ → ℕ → Stage → Stage
filed_on from to s = record s { filed = record { bits = with_span s.filed.bits from to } }

abbrev pub revised_in : ℕ → Stage → Stage
revised_in slot s = record s { slots = record { bits = with_span s.slots.bits slot slot } }

-- money

abbrev pub settled_at : ℤ → Balance → Balance
settled_at charges b = record b { charges = charges }

abbrev pub with_net : ℤ → Balance → Balance
with_net net b = record b { net = net }

abbrev pub paid : ℕ → Balance → Balance
paid x b = with_net (b.net -ℤ pos x) b

abbrev pub drawn : ℕ → Balance → Balance
drawn x b = with_net (b.net +ℤ pos x) b

-- the standing charges and what was drawn, less what was paid
abbrev pub due_of : Balance → ℤ
due_of b = b.charges +ℤ b.net

-- minus an amount below zero, else nothing
abbrev pub receivable : ℤ → ℕ
receivable (pos n) = 0
receivable (negsuc n) = suc n

abbrev pub available : Balance → ℕ
available b = receivable (due_of b)
