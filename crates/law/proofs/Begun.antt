-- A book just opened.
use Rattle.std.proofs.Common.{◌≡◌, ℕ, zero, suc, ◌+◌, ◌-◌, ◌*◌, ◌<◌, ◌≤◌, List, [], ◌∷◌, ◌++◌, map, length, get_or, take, replicate, sum, None, Option, vec_items, sym, refl, ap, ◌∙◌, arith}
use Rattle.book.proofs.OpeningPages.{length_days}
use Rattle.book.proofs.OpeningStations.{opened_at, sums_opened}
use Rattle.book.proofs.Writes.{inside, length_spliced}
use Rattle.book.specs.Lists.{entry, spliced}
use Rattle.book.specs.Opening.{Installable, Openable, Opened, View, all_day, generators_in, opened_stations, station_opened, view_of}
use Rattle.book.specs.Sound.{generators_of}
use Rattle.book.specs.States.{Lengths, Room, lengths_in, nobody, state}
use Rattle.book.specs.declared.book.Book.{Book}
use Rattle.posting.specs.declared.pages.Pages.{Pages}
use Rattle.book.specs.declared.station.Station.{Station}
use Rattle.law.proofs.Kept.{Kept, amounts_in}
use Rattle.law.proofs.Places.{in_all}
use Rattle.law.specs.Data.{Layout, at_opening, layout_of}
use Rattle.law.specs.Figures.{added, first_of}
use Rattle.posting.specs.Amounts.{opened_account}
use Rattle.posting.specs.Days.{no_account}
use Rattle.posting.specs.declared.account.Account.{Account}
use Rattle.share.specs.declared.key.Key as key
use Rattle.std.proofs.lemmas.Bool.{false≢true}
use Rattle.std.proofs.lemmas.List.{get_or_append_left, get_or-append_right, get_or-map, get_or-replicate, length-map, length-replicate}
use Rattle.std.specs.List.{flat_map}
use Rattle.tariff.specs.declared.tariff.Tariff as tariff
use Rattle.units.specs.declared.call.Opening.{Opening}
use Rattle.units.specs.declared.limits.TheConstants.{BLOCKS}

-- the same number in each block of a generator's day
days : (kws : List ℕ) (g b : ℕ) → g < length kws → b < BLOCKS → get_or (flat_map all_day kws) (entry g b) 0 ≡ get_or kws g 0
unfolding all_day
days [] g b h l = absurd (omega arith)
days (kw ∷ kws) zero b h l =
    let long = length-replicate BLOCKS kw in
    let place : entry 0 b ≡ b = omega arith in
    ap (λ k. get_or (replicate BLOCKS kw ++ flat_map all_day kws) k 0) place
    ∙ get_or_append_left (replicate BLOCKS kw) (flat_map all_day kws) 0 b (omega (arith, long)) ∙ get_or-replicate BLOCKS b kw 0 l
days (kw ∷ kws) (suc g) b h l =
    let place : BLOCKS * suc g + b - BLOCKS ≡ entry g b = omega arith in
    get_or-append_right (replicate BLOCKS kw) (flat_map all_day kws) BLOCKS (BLOCKS * suc g + b) 0 (length-replicate BLOCKS kw) (omega arith)
    ∙ ap (λ k. get_or (flat_map all_day kws) k 0) place ∙ days kws g b (omega arith) l

-- a page with the values vs at its front, where it has room for them
front : {X : Type 0} (vs before page : List X) (d : X) (n : ℕ) → page ≡ spliced 0 vs before → length vs ≡ n → n ≤ length before
    → (n ≤ length page) × ((j : ℕ) → j < n → get_or page j d ≡ get_or vs j d)
front vs before page d n is long room = (
  omega (arith, ap length is, length_spliced 0 vs before (omega (arith, long))),
  λ j h.
      let place : j - 0 ≡ j = omega arith in
      ap (λ xs. get_or xs j d) is ∙ inside 0 vs before d (omega arith) j (omega arith) (omega (arith, long)) ∙ ap (λ k. get_or vs k d) place,
)

-- what an opening lists
record Listed (y : Layout) (l : Lengths) : Type 0 where
  same : length y.counts ≡ length y.kinds
  powers : length y.installed ≡ sum y.counts
  sized : Installable y.installed
  room : Room (length y.counts) (sum y.counts) l

listed : (o : Opening) (p : Pages) (n : ℕ) → Openable o p n → Listed (layout_of o) (lengths_in p)
unfolding generators_in
listed o p n is = record {
  same = is.stations.same;
  powers = is.each ∙ is.all;
  sized = is.installable;
  room = record {
    schedules = omega (arith, is.stations.same, is.room.schedules);
    capacities = omega (arith, is.all, is.room.capacities);
    readings = omega (arith, is.all, is.room.readings);
    accounts = omega (arith, is.all, is.room.accounts);
  };
}

all_counted : (o : Opening) (ss : List Station) → length o.counts.now ≡ length o.kinds.now → map view_of ss ≡ opened_stations 0 o.kinds.now o.counts.now → generators_of ss ≡ sum o.counts.now
unfolding generators_in
all_counted o ss same e = (sums_opened ss 0 o.kinds.now o.counts.now same e).generators

nothing_added : (n : ℕ) → added (λ t. 0) n ≡ 0
nothing_added zero = refl
nothing_added (suc n) = omega (arith, nothing_added n)

pub begun_kept : {T K : Type 0} {prices : tariff.Ghosts T} {keys : key.Ghosts K} (tariff : T) (key : K) (o : Opening) (before begun : Pages) (b : Book T K prices keys)
    → Opened tariff key o before begun b → Kept (layout_of o) (at_opening (layout_of o)) (state b begun)
begun_kept tariff key o before begun b op =
    let y = layout_of o in
    let p = listed o before b.generators op.openable in
    let ss = b.stations.items in
    let many : length ss ≡ length y.counts = (sums_opened ss 0 y.kinds y.counts p.same op.stations).stations ∙ sym p.same in
    let at : (t : ℕ) → t < length y.counts → view_of (get_or ss t nobody) ≡ station_opened (0 + sum (take t y.counts)) (get_or y.kinds t 0) (get_or y.counts t 0)
    = λ t h. opened_at ss 0 y.kinds y.counts op.stations t nobody (omega (arith, many)) in
    let n = length y.counts in
    let all = sum y.counts in
    let kw : ℕ = 0 in
    let no : Option ℕ = None in
    let schedules = front (replicate (BLOCKS * length y.kinds) kw) (vec_items before.schedules) (vec_items begun.schedules) 0 (BLOCKS * n)
    op.pages.schedules (omega (arith, p.same, length-replicate (BLOCKS * length y.kinds) kw)) p.room.schedules in
    let capacities = front (flat_map all_day y.installed) (vec_items before.capacities) (vec_items begun.capacities) 0 (BLOCKS * all)
    op.pages.capacities (omega (arith, p.powers, length_days y.installed)) p.room.capacities in
    let readings = front (replicate (BLOCKS * length y.installed) no) (vec_items before.readings) (vec_items begun.readings) None (BLOCKS * all)
    op.pages.readings (omega (arith, p.powers, length-replicate (BLOCKS * length y.installed) no)) p.room.readings in
    let accounts = front (map opened_account y.installed) (vec_items before.accounts) (vec_items begun.accounts) no_account all
    op.pages.accounts (length-map y.installed opened_account ∙ p.powers) p.room.accounts in
    let account : (g : ℕ) → g < all → get_or (vec_items begun.accounts) g no_account ≡ opened_account (get_or y.installed g 0)
    = λ g h. accounts.1 g h ∙ get_or-map opened_account y.installed g 0 no_account (omega (arith, p.powers)) in
    record {
      stand = record {
        many = many;
        all = all_counted o ss p.same op.stations;
        first = λ t h. ap (λ (v : View). v.first) (at t h) ∙ omega arith;
        count = λ t h. ap (λ (v : View). v.count) (at t h);
        phase_is = λ t h. ap (λ (v : View). v.phase) (at t h);
        net = λ t h. ap (λ (v : View). v.net) (at t h);
      };
      cash = omega (arith, op.cash);
      schedules = record {
        room = schedules.0;
        at = λ u c h l. schedules.1 (entry u c) (omega arith) ∙ get_or-replicate (BLOCKS * length y.kinds) (entry u c) 0 0 (omega (arith, p.same));
        low = λ u c h l. omega arith;
      };
      capacities = record {
        room = capacities.0;
        at = λ g c h l. capacities.1 (entry g c) (omega arith) ∙ days y.installed g c (omega (arith, p.powers)) l;
        low = λ g c h l. omega arith;
      };
      readings = record {
        room = readings.0;
        at = λ g c h l. readings.1 (entry g c) (omega arith) ∙ get_or-replicate (BLOCKS * length y.installed) (entry g c) None None (omega (arith, p.powers));
        low = λ g c h l. omega arith;
      };
      powers = record {
        room = accounts.0;
        at = λ g h.
            get_or-map (λ (a : Account). a.installed) (vec_items begun.accounts) g no_account 0 (omega (arith, accounts.0))
            ∙ ap (λ (a : Account). a.installed) (account g h);
        least = λ g h. (p.sized g (omega (arith, p.powers))).0;
        most = λ g h. (p.sized g (omega (arith, p.powers))).1;
      };
      whole = λ t g c on w l. absurd (false≢true on);
      charges = λ t h. ap (λ (v : View). v.charges) (at t h);
      accounts = λ t k h l.
          let own = in_all y.counts (first_of y t + k) t (record { station = h; low = omega arith; high = omega arith }) in
          ap amounts_in (account (first_of y t + k) own);
    }
