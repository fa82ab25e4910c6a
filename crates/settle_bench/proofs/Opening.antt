-- A book that was opened in full, and the calls up to the close of its day.
use Rattle.std.proofs.Common.{◌≡◌, ℕ, zero, suc, ◌+◌, ◌*◌, ◌<◌, List, [], ◌∷◌, map, length, get_or, replicate, Ok, sym, refl, ap, ◌∙◌, subst, arith}
use Rattle.book.specs.Calls.{Answer, Does, closing, filing, issuing}
use Rattle.book.specs.Opening.{View, station_opened, opened_stations, view_of}
use Rattle.book.specs.States.{State, nobody, station_at}
use Rattle.book.specs.Stations.{filed_on, moved, on_stage}
use Rattle.units.specs.declared.head.Head.TheVariants.{File, Issue, Close}
use Rattle.book.specs.declared.station.Station.{Station}
use Rattle.posting.specs.Amounts.{opened_account}
use Rattle.posting.specs.Sheets.{installed_of}
use Rattle.settle_bench.proofs.Settling.{still_sixteen, taken}
use Rattle.settle_bench.specs.Full.{Sixteen}
use Rattle.std.proofs.lemmas.List.{get_or-map, length-map}
use Rattle.units.specs.declared.limits.TheConstants.{GENERATORS, STATIONS}

-- accounts as a day begins have the powers that they were opened with
pub powers_opened : (powers : List ℕ) → installed_of (map opened_account powers) ≡ powers
powers_opened [] = refl
powers_opened (kw ∷ powers) = ap (λ rest. kw ∷ rest) (powers_opened powers)

length_opened : (n from : ℕ) → length (opened_stations from (replicate n 0) (replicate n GENERATORS)) ≡ n
length_opened zero from = refl
length_opened (suc n) from = ap suc (length_opened n (from + GENERATORS))

-- the station t of those that are opened
opened_at : (n from t : ℕ) (d : View) → t < n → get_or (opened_stations from (replicate n 0) (replicate n GENERATORS)) t d ≡ station_opened (from + GENERATORS * t) 0 GENERATORS
opened_at zero from t d h = let none : ⊥ = omega arith in elim none [ ]
opened_at (suc n) from zero d h = ap (λ k. station_opened k 0 GENERATORS) (omega arith)
opened_at (suc n) from (suc t) d h = opened_at n (from + GENERATORS) t d (omega arith) ∙ ap (λ k. station_opened k 0 GENERATORS) (omega arith)

pub opened_sixteen : (ss : List Station) (kinds counts : List ℕ) → kinds ≡ replicate STATIONS 0 → counts ≡ replicate STATIONS GENERATORS → map view_of ss ≡ opened_stations 0 kinds counts → Sixteen ss
opened_sixteen ss kinds counts k c opened =
    let views : map view_of ss ≡ opened_stations 0 (replicate STATIONS 0) (replicate STATIONS GENERATORS) = opened ∙ ap (λ (xs : List ℕ). opened_stations 0 xs counts) k ∙ ap (λ (xs : List ℕ). opened_stations 0 (replicate STATIONS 0) xs) c in
    let many : length ss ≡ STATIONS = sym (length-map ss view_of) ∙ ap (λ (vs : List View). length vs) views ∙ length_opened STATIONS 0 in
    let at : (t : ℕ) → t < STATIONS → view_of (get_or ss t nobody) ≡ station_opened (0 + GENERATORS * t) 0 GENERATORS = λ t h.
    sym (get_or-map view_of ss t nobody (view_of nobody) (omega (arith, many))) ∙ ap (λ (vs : List View). get_or vs t (view_of nobody)) views ∙ opened_at STATIONS 0 t (view_of nobody) h in
    record {
      many = many;
      placed = λ t h. record { first = ap (λ (v : View). v.first) (at t h) ∙ omega arith; count = ap (λ (v : View). v.count) (at t h) };
      even = λ t h. ap (λ (v : View). v.net) (at t h);
    }

pub through : (t : ℕ) (z filed issued closed : State) (r q p : Answer) → t < STATIONS
    → Does (filing t 0 95 0 z) r filed → r ≡ Ok tt
    → Does (issuing t filed) q issued → q ≡ Ok tt
    → Does (closing t issued) p closed → p ≡ Ok tt
    → Sixteen z.stations → Sixteen closed.stations
through t z filed issued closed r q p h files r-ok issues q-ok closes p-ok old =
    let one : Sixteen filed.stations = subst (λ (y : State). Sixteen y.stations) (sym (taken _ z _ filed r files r-ok)) (still_sixteen z.stations t (on_stage (filed_on 0 95) (on_stage (moved File) (station_at z t))) h refl refl old) in
    let two : Sixteen issued.stations = subst (λ (y : State). Sixteen y.stations) (sym (taken _ filed _ issued q issues q-ok)) (still_sixteen filed.stations t (on_stage (moved Issue) (station_at filed t)) h refl refl one) in
    subst (λ (y : State). Sixteen y.stations) (sym (taken _ issued _ closed p closes p-ok)) (still_sixteen issued.stations t (on_stage (moved Close) (station_at issued t)) h refl refl two)
