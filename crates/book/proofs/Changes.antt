-- A changed station may be put back where it keeps what the book needs.
use Rattle.std.proofs.Common.{◌≡◌, ℕ, zero, suc, ◌+◌, ◌-◌, ◌*◌, ◌<◌, ◌≤◌, true, List, [], ◌∷◌, length, get_or, ℤ, pos, negsuc, ◌+ℤ◌, ◌-ℤ◌, nat_abs, ◌≤ℤ◌, Some, None, Option, sym, refl, ap, ◌∙◌, subst, suc-le-suc, arith, Bor}
use Rattle.book.proofs.Causes.{notice_bounds}
use Rattle.units.specs.Refusals.{Checks}
use Rattle.book.specs.Sound.{Changes, IsBounded, IsSound, nets, slots_of}
use Rattle.book.specs.States.{no_station_of, nobody, StationIs}
use Rattle.book.specs.Stations.{available, drawn, due_of, filed_on, is_settled, on_balance, on_stage, paid, receivable, revised_in, settled_at, slot_of, with_net}
use Rattle.book.specs.declared.book.Book.{Book}
use Rattle.book.specs.declared.station.Station.{Station}
use Rattle.book.specs.declared.station.balance.Balance.{Balance}
use Rattle.book.specs.declared.station.stage.Stage.{Stage}
use Rattle.share.specs.declared.key.Key as key
use Rattle.std.proofs.lemmas.Bool.{cond-false, cond-true, false≢true, le-leb, lt-leb}
use Rattle.std.proofs.lemmas.List.{get_or_default}
use Rattle.std.proofs.lemmas.Int.{ints}
use Rattle.std.specs.List.{All}
use Rattle.std.specs.Option.{ok_or, option_copied}
use Rattle.std.specs.Slice.{IsItemAt}
use Rattle.units.specs.declared.fault.Fault.TheVariants.{NoSuchNumber}
use Rattle.units.specs.declared.limits.TheConstants.{BLOCKS, DAY_PAISE, MOST_CASH, STATIONS}
use Rattle.tariff.specs.declared.tariff.Tariff as tariff
use Rattle.units.proofs.Sets.{with_span_low}
use Rattle.units.specs.declared.station.Kind.{Kind}
use Rattle.units.specs.declared.station.Kind.TheVariants.{Wind, Solar}

later : (P : Station → Type 0) (s : Station) (ss : List Station) → All P (s ∷ ss) → All P ss
later P s ss each k d h = each (suc k) d (suc-le-suc h)

-- the nets together are not further ahead than each may be
nets_ahead : (ss : List Station) → All IsSound ss → nets ss ≤ℤ pos (length ss * DAY_PAISE)
nets_ahead [] each = omega (arith, ints)
nets_ahead (s ∷ ss) each =
    let c = (each 0 s (omega arith)).covered in
    omega (arith, ints, c, nets_ahead ss (later IsSound s ss each))

-- nor than one of them and what the others may be ahead
nets_from : (ss : List Station) (t : ℕ) → t < length ss → All IsSound ss → nets ss ≤ℤ ((get_or ss t nobody).balance.net +ℤ pos (length ss * DAY_PAISE))
nets_from [] t h each = absurd (omega arith)
nets_from (s ∷ ss) zero h each = omega (arith, ints, nets_ahead ss (later IsSound s ss each))
nets_from (s ∷ ss) (suc t) h each =
    let c = (each 0 s (omega arith)).covered in
    omega (arith, ints, c, nets_from ss t (omega arith) (later IsSound s ss each))

-- since the nets and the cash balance, no station is far behind either
bounded_at : (ss : List Station) (t cash : ℕ) → t < length ss → length ss ≤ STATIONS → cash ≤ MOST_CASH → nets ss +ℤ pos cash ≡ pos 0
    → All IsSound ss → IsBounded (get_or ss t nobody).balance
bounded_at ss t cash h few low even each =
    let s = each t nobody h in
    let c = s.covered in
    let n = nets_from ss t h each in
    record { light = s.light; near = omega (arith, ints, c, n, even, few, low) }

-- the station t of a book is bounded, and may stay as it is
in_book : {T K : Type 0} {rules : tariff.Ghosts T} {weights : key.Ghosts K} (b : Book T K rules weights) (t : ℕ) (x : Station) → t < length b.stations.items → x ≡ get_or b.stations.items t nobody
    → StationIs b.stations.items b.cash t x
in_book b t x within is =
    let ss = b.stations.items in
    let few : length ss ≤ STATIONS = omega (arith, b.few) in
    let same : (d : Station) → get_or ss t nobody ≡ get_or ss t d = λ d. get_or_default ss t nobody d within in
    record {
      is = is;
      bounded = subst (λ (y : Station). IsBounded y.balance) (sym is) (bounded_at ss t b.cash within few b.low b.even b.sound);
      stays = subst (λ (y : Station). Changes ss t b.cash y b.cash) (sym is) (record {
        within = within;
        placed = λ d. ap (λ (y : Station). y.plant) (same d);
        sound = b.sound t nobody within;
        low = b.low;
        even = λ d. ap (λ (y : Station). y.balance.net +ℤ pos b.cash) (same d);
      });
    }

-- so is the station t of the slice that it lends
pub own : {T K : Type 0} {rules : tariff.Ghosts T} {weights : key.Ghosts K} (b : Book T K rules weights) (lent : List Station) (t : ℕ) (d : Station) → t < length b.stations.items → lent ≡ b.stations.items
    → StationIs b.stations.items b.cash t (get_or lent t d)
own b lent t d within same =
    in_book b t (get_or lent t d) within (ap (λ zs. get_or zs t d) same ∙ sym (get_or_default b.stations.items t nobody d within))

-- it may take the stage of a station that it may become
pub staged_back : (ss lent : List Station) (t cash : ℕ) (d y : Station) (f : Stage → Stage) → lent ≡ ss → Changes ss t cash y cash → y ≡ on_stage f (get_or ss t nobody)
    → Changes ss t cash (record (get_or lent t d) { stage = y.stage }) cash
staged_back ss lent t cash d y f same h e =
    let is : get_or ss t nobody ≡ get_or lent t d = get_or_default ss t nobody d h.within ∙ ap (λ zs. get_or zs t d) (sym same) in
    subst (λ (x : Station). Changes ss t cash (record x { stage = y.stage }) cash) is
    (subst (λ (z : Station). Changes ss t cash (record (get_or ss t nobody) { stage = z.stage }) cash) (sym e)
    (subst (λ (z : Station). Changes ss t cash z cash) e h))

-- what x may become, where it may stay as it is
module _ {ss : List Station} {t cash : ℕ} {x : Station} (h : Changes ss t cash x cash) where
  -- its stage, with its plant and its balance left
  staged : (z : Stage) → IsSound (record x { stage = z }) → Changes ss t cash (record x { stage = z }) cash
  staged z sound = record { within = h.within; placed = h.placed; sound = sound; low = h.low; even = h.even }

  pub filed_back : (from to : ℕ) (z : Stage) → to < BLOCKS → z ≡ filed_on from to x.stage → Changes ss t cash (record x { stage = z }) cash
  filed_back from to z last e = subst (λ (y : Stage). Changes ss t cash (record x { stage = y }) cash) (sym e) (staged (filed_on from to x.stage) (record {
    light = h.sound.light;
    covered = h.sound.covered;
    in_day = with_span_low BLOCKS x.stage.filed.bits from to h.sound.in_day last;
    in_slots = h.sound.in_slots;
    unposted = h.sound.unposted;
  }))

  pub revised_back : (n slot : ℕ) (z : Stage) → slot_of x.plant.kind n ≡ Some slot → z ≡ revised_in slot x.stage → Changes ss t cash (record x { stage = z }) cash
  revised_back n slot z noticed e = subst (λ (y : Stage). Changes ss t cash (record x { stage = y }) cash) (sym e) (staged (revised_in slot x.stage) (record {
    light = h.sound.light;
    covered = h.sound.covered;
    in_day = h.sound.in_day;
    in_slots = with_span_low (slots_of x.plant.kind) x.stage.slots.bits slot slot h.sound.in_slots (notice_bounds x.plant.kind n slot noticed).1;
    unposted = h.sound.unposted;
  }))

  -- charges within their bound, of a settled station
  pub settled_back : (z : ℤ) (b : Balance) → nat_abs z ≤ DAY_PAISE → is_settled x.stage.phase ≡ true → b ≡ settled_at z x.balance → Changes ss t cash (record x { balance = b }) cash
  settled_back z b light on e = subst (λ (y : Balance). Changes ss t cash (record x { balance = y }) cash) (sym e) (record {
    within = h.within;
    placed = h.placed;
    sound = record {
      light = light;
      covered = h.sound.covered;
      in_day = h.sound.in_day;
      in_slots = h.sound.in_slots;
      unposted = λ off. absurd (false≢true (sym off ∙ on));
    };
    low = h.low;
    even = h.even;
  })

  -- a net that moves by as much as the cash
  moved_money : (net : ℤ) (then : ℕ) → net ≤ℤ pos DAY_PAISE → then ≤ MOST_CASH → net +ℤ pos then ≡ x.balance.net +ℤ pos cash
      → Changes ss t cash (on_balance (with_net net) x) then
  moved_money net then covered low even = record {
    within = h.within;
    placed = h.placed;
    sound = record {
      light = h.sound.light;
      covered = covered;
      in_day = h.sound.in_day;
      in_slots = h.sound.in_slots;
      unposted = h.sound.unposted;
    };
    low = low;
    even = λ d. even ∙ h.even d;
  }

  pub paid_back : (amount : ℕ) (b : Balance) → cash + amount ≤ MOST_CASH → b ≡ paid amount x.balance → Changes ss t cash (record x { balance = b }) (cash + amount)
  paid_back amount b low e = subst (λ (y : Balance). Changes ss t cash (record x { balance = y }) (cash + amount)) (sym e)
      (let c = h.sound.covered in moved_money (x.balance.net -ℤ pos amount) (cash + amount) (omega (arith, ints, c)) low (omega (arith, ints)))

  pub drawn_back : (amount : ℕ) (b : Balance) → amount ≤ available x.balance → amount ≤ cash → 0 < amount → b ≡ drawn amount x.balance → Changes ss t cash (record x { balance = b }) (cash - amount)
  drawn_back amount b may held some e = subst (λ (y : Balance). Changes ss t cash (record x { balance = y }) (cash - amount)) (sym e)
      (moved_money (x.balance.net +ℤ pos amount) (cash - amount) (ahead (due_of x.balance) refl may) (omega (arith, h.low)) (omega (arith, ints)))
    where
      ahead : (z : ℤ) → due_of x.balance ≡ z → amount ≤ receivable z → (x.balance.net +ℤ pos amount) ≤ℤ pos DAY_PAISE
      ahead (pos n) q r = absurd (omega arith)
      ahead (negsuc n) q r = let l = h.sound.light in omega (arith, ints, q, l)

pub slots_few : (k : Kind) → slots_of k ≤ 128
slots_few Wind = omega arith
slots_few Solar = omega arith

-- a look-up of station t
pub station_checked : {T K : Type 0} {rules : tariff.Ghosts T} {weights : key.Ghosts K} (b : Book T K rules weights) (t : ℕ) (r : Option (Bor Station)) → IsItemAt b.stations.items t r
    → Checks (no_station_of b.stations.items t) (StationIs b.stations.items b.cash t) (ok_or (option_copied r) (NoSuchNumber t))
station_checked b t None at = cond-true _ (Some (NoSuchNumber t)) None (le-leb _ _ at.3)
station_checked b t (Some x) at = (cond-false _ (Some (NoSuchNumber t)) None (lt-leb _ _ at.3.0), in_book b t x.now at.3.0 (at.4 (omega arith) nobody))
