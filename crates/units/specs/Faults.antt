-- Each refusal's layer, number and place.
use Rattle.std.specs.Prelude.{ℕ, List, [], ◌∷◌, ◌++◌, codes, decimal}
use Rattle.units.specs.Stations.{phase_number}
use Rattle.units.specs.declared.fault.Page.{Page}
use Rattle.units.specs.declared.fault.Page.TheVariants.{Schedules, Capacities, Readings, Accounts}
use Rattle.units.specs.declared.fault.Fault.{Fault}
use Rattle.units.specs.declared.fault.Fault.TheVariants.{NoMemory, StationCount, BadStation, InstalledCount, InstalledRange, ShortPage, HighRate, BadPenalty, ShortOutput, LongLine, NotForm, UnknownHead, BadArgument, NoSuchNumber, WrongPhase, BadBlocks, BadNotice, ValueCount, HighValue, RevisionNumber, UsedSlot, Unfiled, MissingReading, BadAmount, FullCash, DrawAboveDue, DrawAboveCash}
use Rattle.units.specs.declared.fault.Refusal.{Refusal}

-- layer, number, and a place of two numbers
abbrev pub names : ℕ → ℕ → ℕ → ℕ → Refusal
names layer number p q = record { layer = layer; number = number; place = (p, q) }

abbrev pub page_number : Page → ℕ
page_number Schedules = 1
page_number Capacities = 2
page_number Readings = 3
page_number Accounts = 4

abbrev pub refusal_of : Fault → Refusal
refusal_of NoMemory = names 0 0 0 0
refusal_of (StationCount kinds counts) = names 0 1 kinds counts
refusal_of (BadStation station) = names 0 2 station 0
refusal_of (InstalledCount given needed) = names 0 3 given needed
refusal_of (InstalledRange generator kw) = names 0 4 generator kw
refusal_of (ShortPage page needed) = names 0 5 page needed
refusal_of (HighRate rate) = names 0 23 rate 0
refusal_of (BadPenalty value) = names 0 24 value 0
refusal_of (ShortOutput length) = names 1 6 length 0
refusal_of (LongLine length) = names 1 7 length 0
refusal_of (NotForm start) = names 1 8 start 0
refusal_of UnknownHead = names 1 9 0 0
refusal_of (BadArgument position) = names 1 10 position 0
refusal_of (NoSuchNumber number) = names 2 11 number 0
refusal_of (WrongPhase station phase) = names 2 12 station (phase_number phase)
refusal_of (BadBlocks from to) = names 2 13 from to
refusal_of (BadNotice notice) = names 2 13 notice 0
refusal_of (ValueCount given needed) = names 2 14 given needed
refusal_of (HighValue position limit) = names 2 15 position limit
refusal_of (RevisionNumber given next) = names 2 16 given next
refusal_of (UsedSlot slot last) = names 2 17 slot last
refusal_of (Unfiled station block) = names 2 18 station block
refusal_of (MissingReading generator block) = names 2 18 generator block
refusal_of (BadAmount station amount) = names 3 19 station amount
refusal_of (FullCash station cash) = names 3 20 station cash
refusal_of (DrawAboveDue station available) = names 3 21 station available
refusal_of (DrawAboveCash station cash) = names 3 22 station cash

-- a refusal as an answer writes it: `no` and its four numbers, with one space between, in brackets
abbrev pub refusal_text : Refusal → List ℕ
refusal_text r = codes "(no " ++ decimal r.layer ++ 32 ∷ decimal r.number ++ 32 ∷ decimal r.place.0 ++ 32 ∷ decimal r.place.1 ++ 41 ∷ []
