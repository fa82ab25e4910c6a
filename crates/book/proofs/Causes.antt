-- What a call has passed where none of its causes holds.
use Rattle.std.proofs.Common.{◌≡◌, ℕ, ◌+◌, ◌-◌, ◌*◌, ◌/◌, ◌<◌, ◌≤◌, ◌&&◌, ◌||◌, Bool, true, false, not, eqb, ltb, leb, List, [], ◌∷◌, length, get_or, Some, None, Option, unwrap_or, is_some, sym, refl, ap, ◌∙◌, subst, arith}
use Rattle.book.proofs.Positions.{nowhere}
use Rattle.book.specs.Causes.{bad_blocks, bad_notice, high_value, high_values, revision_causes, used_slot, value_count, wrong_number}
use Rattle.book.specs.States.{Fit, Lengths, Room, State, admission, generator_admission, generator_presence, generators, no_generator, no_station, owner_of, presence, short_for, short_page, short_pages, station_at}
use Rattle.book.specs.Stations.{moves, slot_of}
use Rattle.book.specs.declared.station.Station.{Station}
use Rattle.std.proofs.lemmas.Bool.{and_parts, cond-false, eqb-true, leb-true, leb-false, ltb-false, not-false, or_parts}
use Rattle.std.proofs.lemmas.Option.{cond_some, none-some}
use Rattle.std.specs.List.{position}
use Rattle.std.specs.Option.{option_map}
use Rattle.units.specs.Bits.{count_of, last_of}
use Rattle.units.specs.Refusals.{first, when}
use Rattle.units.specs.declared.fault.Fault.{Fault}
use Rattle.units.specs.declared.fault.Fault.TheVariants.{BadNotice, HighValue}
use Rattle.units.specs.declared.fault.Page.{Page}
use Rattle.units.specs.declared.fault.Page.TheVariants.{Schedules, Capacities, Readings, Accounts}
use Rattle.units.specs.declared.head.Head.{Head}
use Rattle.units.specs.declared.station.Kind.{Kind}
use Rattle.units.specs.declared.station.Kind.TheVariants.{Wind, Solar}
use Rattle.book.specs.Sound.{slots_of}
use Rattle.units.specs.declared.limits.TheConstants.{BLOCKS, FIRST_SOLAR_NOTICE, LAST_NOTICE, LAST_SOLAR_NOTICE, REVISION_LEAD, SLOT_BLOCKS, STATION_KW}

-- causes

pub first_none : (c : Option Fault) (cs : List (Option Fault)) → first (c ∷ cs) ≡ None → (c ≡ None) × (first cs ≡ None)
first_none None cs h = (refl, h)
first_none (Some f) cs h = absurd (none-some f (sym h))

pub none_first : (c : Option Fault) (cs : List (Option Fault)) → c ≡ None → first cs ≡ None → first (c ∷ cs) ≡ None
none_first c cs e rest = ap (λ x. first (x ∷ cs)) e ∙ rest

pub when_none : (b : Bool) (f : Fault) → when b f ≡ None → b ≡ false
when_none false f h = refl
when_none true f h = absurd (none-some f (sym h))

pub none_when : (b : Bool) (f : Fault) → b ≡ false → when b f ≡ None
none_when b f e = cond-false b (Some f) None e

-- what every call tests first

long_enough : (page : Page) (given needed : ℕ) → short_page page given needed ≡ None → needed ≤ given
long_enough page given needed h = ltb-false given needed (when_none (ltb given needed) _ h)

fits : (stations generators : ℕ) (l : Lengths) → short_for stations generators l ≡ None → Room stations generators l
fits stations generators l h =
    let schedules = first_none (short_page Schedules l.schedules (BLOCKS * stations)) _ h in
    let capacities = first_none (short_page Capacities l.capacities (BLOCKS * generators)) _ schedules.1 in
    let readings = first_none (short_page Readings l.readings (BLOCKS * generators)) _ capacities.1 in
    let accounts = first_none (short_page Accounts l.accounts generators) [] readings.1 in
    record {
      schedules = long_enough Schedules _ _ schedules.0;
      capacities = long_enough Capacities _ _ capacities.0;
      readings = long_enough Readings _ _ readings.0;
      accounts = long_enough Accounts _ _ accounts.0;
    }

-- the pages fit, and the station is there
pub present : (t : ℕ) (s : State) → presence t s ≡ None → Fit s × (t < length s.stations)
present t s h =
    let pages = first_none (short_pages s) _ h in
    let station = (first_none (no_station t s) [] pages.1).0 in
    (fits _ _ _ pages.0, leb-false _ _ (when_none (leb (length s.stations) t) _ station))

-- and it takes the action in its phase
pub record Admits (a : Head) (t : ℕ) (s : State) : Type 0 where
  pub fit : Fit s
  pub there : t < length s.stations
  pub takes : is_some (moves (station_at s t).stage.phase a) ≡ true

pub admitted : (a : Head) (t : ℕ) (s : State) → admission a t s ≡ None → Admits a t s
admitted a t s h =
    let c = first_none (presence t s) _ h in
    let phase = (first_none _ [] c.1).0 in
    let at = present t s c.0 in
    record { fit = at.0; there = at.1; takes = not-false _ (when_none (not (is_some (moves (station_at s t).stage.phase a))) _ phase) }

-- the generator is there, and its station takes the action in its phase
pub generator_admitted : (a : Head) (g : ℕ) (s : State) → generator_admission a g s ≡ None → (g < generators s) × (is_some (moves (station_at s (owner_of s g)).stage.phase a) ≡ true)
generator_admitted a g s h =
    let c = first_none (generator_presence g s) _ h in
    let there = (first_none (no_generator g s) [] (first_none (short_pages s) _ c.0).1).0 in
    let phase = (first_none _ [] c.1).0 in
    (leb-false _ _ (when_none (leb (generators s) g) _ there), not-false _ (when_none (not (is_some (moves (station_at s (owner_of s g)).stage.phase a))) _ phase))

-- a call's own numbers

pub blocks_pass : (from to : ℕ) → bad_blocks from to ≡ None → (to < BLOCKS) × (from ≤ to)
blocks_pass from to h =
    let p = or_parts (leb BLOCKS to) (ltb to from) (when_none (leb BLOCKS to || ltb to from) _ h) in
    (leb-false BLOCKS to p.0, ltb-false to from p.1)

pub value_passes : (i limit v : ℕ) → high_value i limit v ≡ None → v ≤ limit
value_passes i limit v h = ltb-false limit v (when_none (ltb limit v) _ h)

values_pass : (limit : ℕ) (vs : List ℕ) → high_values limit vs ≡ None → (k : ℕ) → k < length vs → get_or vs k 0 ≤ limit
values_pass limit vs h k l = ltb-false _ _ (nowhere (ltb limit) vs (unmapped (position (ltb limit) vs) h) k 0 l)
  where
    unmapped : (o : Option ℕ) → option_map (λ i. HighValue i limit) o ≡ None → o ≡ None
    unmapped None e = refl
    unmapped (Some i) e = absurd (none-some (HighValue i limit) (sym e))

-- a notice is not too late, and its slot is one of the day's
pub notice_bounds : (k : Kind) (n slot : ℕ) → slot_of k n ≡ Some slot → (n ≤ LAST_NOTICE) × (slot < slots_of k)
notice_bounds Wind n slot e =
    let in_day = cond_some (leb n LAST_NOTICE) (n / SLOT_BLOCKS) slot e in
    let low = leb-true n LAST_NOTICE in_day.0 in
    (low, omega (arith, low, in_day.1))
notice_bounds Solar n slot e =
    let in_light = cond_some (leb FIRST_SOLAR_NOTICE n && leb n LAST_SOLAR_NOTICE) ((n - FIRST_SOLAR_NOTICE) / SLOT_BLOCKS) slot e in
    let low = leb-true n LAST_SOLAR_NOTICE (and_parts (leb FIRST_SOLAR_NOTICE n) (leb n LAST_SOLAR_NOTICE) in_light.0).1 in
    (omega (arith, low), omega (arith, low, in_light.1))

-- revision k of station x, with notice in block n
pub record Revisable (k n : ℕ) (vs : List ℕ) (x : Station) : Type 0 where
  pub slot : ℕ
  pub slotted : slot_of x.plant.kind n ≡ Some slot
  pub low : n ≤ LAST_NOTICE
  pub counted : length vs ≡ BLOCKS - REVISION_LEAD - n
  pub each : (j : ℕ) → j < length vs → get_or vs j 0 ≤ STATION_KW
  pub next : k ≡ count_of x.stage.slots.bits + 1
  pub fresh : used_slot slot (last_of x.stage.slots.bits) ≡ None

pub revisable : (k n : ℕ) (vs : List ℕ) (x : Station) → first (revision_causes k n vs x) ≡ None → Revisable k n vs x
revisable k n vs x h =
    let o = slot_of x.plant.kind n in
    let notice = first_none (bad_notice n o) _ h in
    let count = first_none (value_count (length vs) (BLOCKS - REVISION_LEAD - n)) _ notice.1 in
    let values = first_none (high_values STATION_KW vs) _ count.1 in
    let number = first_none (wrong_number k (count_of x.stage.slots.bits)) _ values.1 in
    let used = first_none (used_slot (unwrap_or o 0) (last_of x.stage.slots.bits)) [] number.1 in
    let found = noticed o notice.0 in
    record {
      slot = found.0;
      slotted = found.1;
      low = (notice_bounds x.plant.kind n found.0 found.1).0;
      counted = eqb-true _ _ (not-false _ (when_none (not (eqb (length vs) (BLOCKS - REVISION_LEAD - n))) _ count.0));
      each = values_pass STATION_KW vs values.0;
      next = eqb-true _ _ (not-false _ (when_none (not (eqb k (count_of x.stage.slots.bits + 1))) _ number.0));
      fresh = subst (λ (z : Option ℕ). used_slot (unwrap_or z 0) (last_of x.stage.slots.bits) ≡ None) found.1 used.0;
    }
  where
    noticed : (o : Option ℕ) → bad_notice n o ≡ None → (slot : ℕ) × (o ≡ Some slot)
    noticed (Some slot) e = (slot, refl)
    noticed None e = absurd (none-some (BadNotice n) (sym e))
