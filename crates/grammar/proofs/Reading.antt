-- `outcome` finds the form that a line spells, or the longest start of a form.
use Rattle.std.proofs.Common.{◌≡◌, ℕ, zero, suc, ◌+◌, ◌-◌, ◌<◌, ◌≤◌, true, ◌&&◌, eqb, ltb, List, [], ◌∷◌, ◌++◌, length, get_or, take, IfSome, Some, None, sym, refl, ap, ◌∙◌, subst, append_assoc, append-nil, arith}
use Rattle.std.specs.List.{flat_map, AllByRecursion}
use Rattle.std.specs.Int.{is_in_range as within}
use Rattle.std.proofs.lemmas.List.{flat_map_more, length_push}
use Rattle.std.proofs.lemmas.Bool.{cond_both, cond-true, cond-false, eqb-true, ne_eqb, ltb-true, lt-ltb, and_parts, and_from}
use Rattle.std.proofs.lemmas.Bool.Decides.{nat_tests}
use Rattle.grammar.specs.Grammar.{all_within, Word, Numeral, spaced, Arg, number, list, spelled_arg, SoundArg, Form, Sound, opened, spelled, Begins, NotForm}
use Rattle.grammar.specs.declared.line.TheConstants.{MOST_DIGITS, MOST_LETTERS, MOST_NUMBERS}
use Rattle.grammar.specs.Machine.{with_arg, led, Spot, top, inside, State, start, word, need, digits, closed, done, grows, after, listed, numbered, named, opens, step, Outcome, whole, stuck, ended, outcome}

-- the bytes that lead to a state

abbrev told_spot : Spot → List ℕ
told_spot (top f) = opened f ++ 32 ∷ []
told_spot (inside f ns) = opened f ++ 32 ∷ 40 ∷ led ns

abbrev told : State → List ℕ
told start = []
told (word w) = 40 ∷ w
told (need p) = told_spot p
told (digits p ds) = told_spot p ++ ds
told (closed f) = opened f
told (done f) = spelled f

-- what is known in a state

abbrev GoodSpot : Spot → Type 0
GoodSpot (top f) = Sound f
GoodSpot (inside f ns) = Sound f × AllByRecursion Numeral ns × (length ns < MOST_NUMBERS)

abbrev Good : State → Type 0
Good start = Unit {0}
Good (word w) = (all_within 97 122 w ≡ true) × (length w ≤ MOST_LETTERS)
Good (need p) = GoodSpot p
Good (digits p ds) = GoodSpot p × Numeral ds
Good (closed f) = Sound f
Good (done f) = Sound f

all_push : {X : Type 0} (P : X → Type 0) (xs : List X) (y : X) → AllByRecursion P xs → P y → AllByRecursion P (xs ++ y ∷ [])
all_push P [] y h k = (k, tt)
all_push P (x ∷ xs) y h k = (h.0, all_push P xs y h.1 k)

within_push : (lo hi : ℕ) (w : List ℕ) (b : ℕ) → all_within lo hi w ≡ true → within lo hi b ≡ true → all_within lo hi (w ++ b ∷ []) ≡ true
within_push lo hi [] b h k = and_from _ _ k refl
within_push lo hi (x ∷ w) b h k = let p = and_parts _ _ h in and_from _ _ p.0 (within_push lo hi w b p.1 k)

led_spaced : (ns : List (List ℕ)) (d : List ℕ) → spaced (ns ++ d ∷ []) ≡ led ns ++ d
led_spaced [] d = refl
led_spaced (n ∷ []) d = sym (append_assoc n (32 ∷ []) d) ∙ ap (λ l. l ++ d) (sym (append-nil _))
led_spaced (n ∷ m ∷ ns) d = ap (λ l. n ++ 32 ∷ l) (led_spaced (m ∷ ns) d) ∙ simp append_assoc

pub led_push : (ns : List (List ℕ)) (d : List ℕ) → led (ns ++ d ∷ []) ≡ led ns ++ (d ++ 32 ∷ [])
led_push ns d = sym (flat_map_more (λ n. n ++ 32 ∷ []) [] ns d)

opened_push : (f : Form) (a : Arg) → opened (with_arg f a) ≡ opened f ++ 32 ∷ spelled_arg a
opened_push f a = ap (λ l. 40 ∷ l) (sym (flat_map_more (λ a. 32 ∷ spelled_arg a) f.head f.args a))

-- the byte b, which was found to be c
at_byte : (l m : List ℕ) (b c : ℕ) → eqb b c ≡ true → l ≡ m ++ c ∷ [] → l ≡ m ++ b ∷ []
at_byte l m b c e h = h ∙ ap (λ x. m ++ x ∷ []) (sym (eqb-true b c e))

-- a step keeps what is known, and tells its byte
abbrev Steps : State → ℕ → State → Type 0
Steps s b t = Good t × (told t ≡ told s ++ b ∷ [])

steps_after : (f : Form) (b : ℕ) → Sound f → IfSome (after f b) (λ t. Good t × (told t ≡ opened f ++ b ∷ []))
steps_after f b h =
    cond_both (eqb b 32) _ _ (λ o. IfSome o (λ t. Good t × (told t ≡ opened f ++ b ∷ [])))
    (λ e. (h, ap (λ c. opened f ++ c ∷ []) (sym (eqb-true b 32 e))))
    (λ _. cond_both (eqb b 41) _ _ (λ o. IfSome o (λ t. Good t × (told t ≡ opened f ++ b ∷ [])))
    (λ e. (h, ap (λ c. opened f ++ c ∷ []) (sym (eqb-true b 41 e))))
    (λ _. tt))

steps_listed : (f : Form) (ns : List (List ℕ)) (ds : List ℕ) (b : ℕ) → GoodSpot (inside f ns) → Numeral ds → IfSome (listed f ns ds b) (Steps (digits (inside f ns) ds) b)
steps_listed f ns ds b h k =
    cond_both (eqb b 32) _ _ (λ o. IfSome o (Steps (digits (inside f ns) ds) b))
    (λ e. cond_both (ltb (suc (length ns)) MOST_NUMBERS) _ _ (λ o. IfSome o (Steps (digits (inside f ns) ds) b))
    (λ room. (
      (h.0, all_push Numeral ns ds h.1 k, simp length_push (omega (arith, ltb-true _ _ room))),
      at_byte (told (need (inside f (ns ++ ds ∷ [])))) (told (digits (inside f ns) ds)) b 32 e (ap (λ l. opened f ++ 32 ∷ 40 ∷ l) (led_push ns ds) ∙ simp append_assoc),
    ))
    (λ _. tt))
    (λ _. cond_both (eqb b 41) _ _ (λ o. IfSome o (Steps (digits (inside f ns) ds) b))
    (λ e. (
      record {
        head = h.0.head;
        args = all_push SoundArg f.args (list (led ns ++ ds)) h.0.args (record {
          each = ns ++ ds ∷ [];
          sound = all_push Numeral ns ds h.1 k;
          some = simp length_push (omega arith);
          few = simp length_push (omega (arith, h.2));
          bytes = sym (led_spaced ns ds);
        });
      },
      at_byte (opened (with_arg f (list (led ns ++ ds)))) (told (digits (inside f ns) ds)) b 41 e (opened_push f (list (led ns ++ ds)) ∙ simp append_assoc),
    ))
    (λ _. tt))

steps_numbered : (p : Spot) (ds : List ℕ) (b : ℕ) → GoodSpot p → Numeral ds → IfSome (numbered p ds b) (Steps (digits p ds) b)
steps_numbered (inside f ns) ds b h k = steps_listed f ns ds b h k
steps_numbered (top f) ds b h k =
    let told-all : opened (with_arg f (number ds)) ++ b ∷ [] ≡ told (digits (top f) ds) ++ b ∷ [] =
    ap (λ l. l ++ b ∷ []) (opened_push f (number ds)) ∙ simp append_assoc in
    subst (λ l. IfSome (after (with_arg f (number ds)) b) (λ t. Good t × (told t ≡ l))) told-all
    (steps_after (with_arg f (number ds)) b (record { head = h.head; args = all_push SoundArg f.args (number ds) h.args k }))

steps_named : (w : List ℕ) (b : ℕ) → Good (word w) → IfSome (named w b) (Steps (word w) b)
steps_named [] b h = tt
steps_named (x ∷ w) b h =
    let f : Form = record { head = x ∷ w; args = [] } in
    subst (λ l. IfSome (after f b) (λ t. Good t × (told t ≡ l))) (ap (λ l. 40 ∷ (l ++ b ∷ [])) (append-nil (x ∷ w)))
    (steps_after f b (record { head = (h.0, omega arith, h.1); args = tt }))

steps_opens : (p : Spot) (b : ℕ) → GoodSpot p → IfSome (opens p b) (Steps (need p) b)
steps_opens (inside f ns) b h = tt
steps_opens (top f) b h =
    cond_both (eqb b 40) _ _ (λ o. IfSome o (Steps (need (top f)) b))
    (λ e. ((h, tt, omega arith), at_byte (told (need (inside f []))) (told (need (top f))) b 40 e (simp append_assoc)))
    (λ _. tt)

-- a digit after a number that may grow
more_digits_lem : (ds : List ℕ) (b : ℕ) → Numeral ds → within 48 57 b ≡ true → grows ds ≡ true → Numeral (ds ++ b ∷ [])
more_digits_lem [] b h d g = absurd (omega (arith, h.1))
more_digits_lem (x ∷ ds) b h d g =
    let first : (x ≡ 48 → ⊥) × (suc (length ds) < MOST_DIGITS) = grind (arith, nat_tests) in (
      within_push 48 57 (x ∷ ds) b h.0 d,
      omega arith,
      simp length_push (omega (arith, first.1)),
      λ e. absurd (first.0 e),
    )

steps : (s : State) (b : ℕ) → Good s → IfSome (step s b) (Steps s b)
steps start b h =
    cond_both (eqb b 40) _ _ (λ o. IfSome o (Steps start b)) (λ e. ((refl, omega arith), ap (λ c. c ∷ []) (sym (eqb-true b 40 e)))) (λ _. tt)
steps (word w) b h =
    cond_both (within 97 122 b && ltb (length w) MOST_LETTERS) _ _ (λ o. IfSome o (Steps (word w) b))
    (λ e. let p = and_parts _ _ e in ((within_push 97 122 w b h.0 p.0, simp length_push (omega (arith, ltb-true _ _ p.1))), refl))
    (λ _. steps_named w b h)
steps (need p) b h =
    cond_both (within 48 57 b) _ _ (λ o. IfSome o (Steps (need p) b))
    (λ e. ((h, (and_from _ _ e refl, omega arith, omega arith, λ _. refl)), refl))
    (λ _. steps_opens p b h)
steps (digits p ds) b h =
    cond_both (within 48 57 b && grows ds) _ _ (λ o. IfSome o (Steps (digits p ds) b))
    (λ e. let q = and_parts _ _ e in ((h.0, more_digits_lem ds b h.1 q.0 q.1), simp append_assoc))
    (λ _. steps_numbered p ds b h.0 h.1)
steps (closed f) b h = steps_after f b h
steps (done f) b h = tt

-- what an outcome says of the bytes bs that are left in the state s

record Blocked (s : State) (bs : List ℕ) (left : ℕ) : Type 0 where
  within : left ≤ length bs
  at : State
  good : Good at
  leads : told at ≡ told s ++ take (length bs - left) bs

abbrev Says : State → List ℕ → Outcome → Type 0
Says s bs (whole f) = Sound f × (spelled f ≡ told s ++ bs)
Says s bs (stuck left) = Blocked s bs left

says_ended : (s : State) → Good s → Says s [] (ended s)
says_ended start h = record { within = omega arith; at = start; good = h; leads = sym (append-nil _) }
says_ended (word w) h = record { within = omega arith; at = word w; good = h; leads = sym (append-nil _) }
says_ended (need p) h = record { within = omega arith; at = need p; good = h; leads = sym (append-nil _) }
says_ended (digits p ds) h = record { within = omega arith; at = digits p ds; good = h; leads = sym (append-nil _) }
says_ended (closed f) h = record { within = omega arith; at = closed f; good = h; leads = sym (append-nil _) }
says_ended (done f) h = (h, sym (append-nil _))

-- one byte earlier
says_more : (s t : State) (b : ℕ) (bs : List ℕ) (o : Outcome) → told t ≡ told s ++ b ∷ [] → Says t bs o → Says s (b ∷ bs) o
says_more s t b bs (whole f) e h = (h.0, h.1 ∙ ap (λ l. l ++ bs) e ∙ append_assoc (told s) (b ∷ []) bs)
says_more s t b bs (stuck left) e h =
    let n : ℕ = length bs - left in
    let more : suc (length bs) - left ≡ suc n = omega (arith, h.within) in
    record {
      within = omega (arith, h.within);
      at = h.at;
      good = h.good;
      leads = h.leads ∙ ap (λ l. l ++ take n bs) e ∙ append_assoc (told s) (b ∷ []) (take n bs) ∙ ap (λ k. told s ++ take k (b ∷ bs)) (sym more);
    }

says : (s : State) (bs : List ℕ) → Good s → Says s bs (outcome s bs)
says s [] h = says_ended s h
says s (b ∷ bs) h =
    (elim (step s b) as (λ o. IfSome o (Steps s b) → Says s (b ∷ bs) (elim o [ None ↦ stuck (suc (length bs)) | Some t ↦ outcome t bs ])) [
      | None ↦ λ _.
          let none : 0 ≡ suc (length bs) - suc (length bs) = omega arith in
          record { within = omega arith; at = s; good = h; leads = sym (append-nil _) ∙ ap (λ k. told s ++ take k (b ∷ bs)) none }
      | Some t ↦ λ k. says_more s t b bs (outcome t bs) k.1 (says t bs k.0)
    ]) (steps s b h)

-- each state can be brought to an end

abbrev shut : Spot → List ℕ
shut (top f) = 41 ∷ []
shut (inside f ns) = 41 ∷ 41 ∷ []

abbrev finish : State → List ℕ
finish start = 40 ∷ 97 ∷ 41 ∷ []
finish (word []) = 97 ∷ 41 ∷ []
finish (word (x ∷ w)) = 41 ∷ []
finish (need p) = 48 ∷ shut p
finish (digits p ds) = shut p
finish (closed f) = 41 ∷ []
finish (done f) = []

finishes : (s : State) → (f : Form) × (outcome s (finish s) ≡ whole f)
finishes start = (_, refl)
finishes (word []) = (_, refl)
finishes (word (x ∷ w)) = (_, refl)
finishes (need (top f)) = (_, refl)
finishes (need (inside f ns)) = (_, refl)
finishes (digits (top f) ds) = (_, refl)
finishes (digits (inside f ns) ds) = (_, refl)
finishes (closed f) = (_, refl)
finishes (done f) = (_, refl)

completes : (s : State) → Good s → Begins (told s)
completes s h =
    let end = finishes s in
    let said : Says s (finish s) (whole end.0) = subst (Says s (finish s)) end.1 (says s (finish s) h) in
    record { form = end.0; sound = said.0; rest = finish s; whole = sym said.1 }

-- past the byte where it is stuck, nothing helps

bounded : (s : State) (bs : List ℕ) (left : ℕ) → Good s → outcome s bs ≡ stuck left → left ≤ length bs
bounded s bs left h e = let b : Blocked s bs left = subst (Says s bs) e (says s bs h) in b.within

ended_stuck : (s : State) (left : ℕ) → ended s ≡ stuck left → left ≡ 0
ended_stuck start left e = cc
ended_stuck (word w) left e = cc
ended_stuck (need p) left e = cc
ended_stuck (digits p ds) left e = cc
ended_stuck (closed f) left e = cc
ended_stuck (done f) left e = cc

stays : (s : State) (bs more : List ℕ) (m left : ℕ) → Good s → outcome s bs ≡ stuck left → length bs < m + left → m ≤ length bs → (k : ℕ) × (outcome s (take m bs ++ more) ≡ stuck k)
stays s [] more m left h e past in-line = absurd (omega (arith, ended_stuck s left e))
stays s (b ∷ bs) more zero left h e past in-line = absurd (omega (arith, bounded s (b ∷ bs) left h e))
stays s (b ∷ bs) more (suc m) left h e past in-line =
    (elim (step s b) as (λ o. IfSome o (Steps s b) → (elim o [ None ↦ stuck (suc (length bs)) | Some t ↦ outcome t bs ]) ≡ stuck left → (k : ℕ) × ((elim o [ None ↦ stuck (suc (length (take m bs ++ more))) | Some t ↦ outcome t (take m bs ++ more) ]) ≡ stuck k)) [
      | None ↦ λ _ _. (_, refl)
      | Some t ↦ λ k e. stays t bs more m left k.0 e (omega arith) (omega arith)
    ]) (steps s b h) e

-- the machine goes through a word, a number, a list, the arguments

-- where the next byte leads
pub goes : (s t : State) (b : ℕ) (bs : List ℕ) → step s b ≡ Some t → outcome s (b ∷ bs) ≡ outcome t bs
goes s t b bs e = ap (λ o. elim o [ None ↦ stuck (suc (length bs)) | Some t ↦ outcome t bs ]) e

pub through_letters : (w v rest : List ℕ) → all_within 97 122 v ≡ true → length w + length v ≤ MOST_LETTERS → outcome (word w) (v ++ rest) ≡ outcome (word (w ++ v)) rest
through_letters w [] rest h k = ap (λ l. outcome (word l) rest) (sym (append-nil w))
through_letters w (b ∷ v) rest h k =
    let p = and_parts (within 97 122 b) (all_within 97 122 v) h in
    let small : ltb (length w) MOST_LETTERS ≡ true = lt-ltb _ _ (omega arith) in
    let here = goes (word w) (word (w ++ b ∷ [])) b (v ++ rest) (cond-true _ _ _ (and_from _ _ p.0 small)) in
    here ∙ through_letters (w ++ b ∷ []) v rest p.1 (simp length_push (omega arith)) ∙ ap (λ l. outcome (word l) rest) (append_assoc w (b ∷ []) v)

pub through_word : (w rest : List ℕ) → Word w → outcome start (40 ∷ (w ++ rest)) ≡ outcome (word w) rest
through_word w rest h = through_letters [] w rest h.0 (omega (arith, h.2))

pub through_digits : (p : Spot) (ds es rest : List ℕ) → 1 ≤ length ds → (get_or ds 0 0 ≡ 48 → ⊥) → all_within 48 57 es ≡ true → length ds + length es ≤ MOST_DIGITS → outcome (digits p ds) (es ++ rest) ≡ outcome (digits p (ds ++ es)) rest
through_digits p ds [] rest s z h k = ap (λ l. outcome (digits p l) rest) (sym (append-nil ds))
through_digits p [] (e ∷ es) rest s z h k = absurd (omega arith)
through_digits p (d ∷ ds) (e ∷ es) rest s z h k =
    let q = and_parts (within 48 57 e) (all_within 48 57 es) h in
    let room : grows (d ∷ ds) ≡ true = cond-false _ _ _ (ne_eqb d 48 z) ∙ lt-ltb _ MOST_DIGITS (omega arith) in
    let here = goes (digits p (d ∷ ds)) (digits p (d ∷ ds ++ e ∷ [])) e (es ++ rest) (cond-true _ _ _ (and_from _ _ q.0 room)) in
    here ∙ through_digits p (d ∷ ds ++ e ∷ []) es rest (omega arith) z q.1 (simp length_push (omega arith)) ∙ ap (λ l. outcome (digits p l) rest) (append_assoc (d ∷ ds) (e ∷ []) es)

pub through_number : (p : Spot) (ds rest : List ℕ) → Numeral ds → outcome (need p) (ds ++ rest) ≡ outcome (digits p ds) rest
through_number p [] rest h = absurd (omega (arith, h.1))
through_number p (d ∷ []) rest h = goes (need p) (digits p (d ∷ [])) d rest (cond-true (within 48 57 d) _ (opens p d) (and_parts (within 48 57 d) true h.0).0)
through_number p (d ∷ e ∷ ds) rest h =
    let q = and_parts (within 48 57 d) (all_within 48 57 (e ∷ ds)) h.0 in
    goes (need p) (digits p (d ∷ [])) d (e ∷ ds ++ rest) (cond-true _ _ _ q.0)
    ∙ through_digits p (d ∷ []) (e ∷ ds) rest (omega arith) (λ z. absurd (omega (arith, h.3 z))) q.1 (omega (arith, h.2))

pub through_list : (f : Form) (ns : List (List ℕ)) (n : List ℕ) (ms : List (List ℕ)) (rest : List ℕ) → AllByRecursion Numeral (n ∷ ms) → length ns + length (n ∷ ms) ≤ MOST_NUMBERS → outcome (need (inside f ns)) (spaced (n ∷ ms) ++ 41 ∷ rest) ≡ outcome (closed (with_arg f (list (led ns ++ spaced (n ∷ ms))))) rest
through_list f ns n [] rest h k =
    through_number (inside f ns) n (41 ∷ rest) h.0 ∙ goes (digits (inside f ns) n) (closed (with_arg f (list (led ns ++ n)))) 41 rest refl
through_list f ns n (m ∷ ms) rest h k =
    let tail : List ℕ = spaced (m ∷ ms) in
    let small : ltb (suc (length ns)) MOST_NUMBERS ≡ true = lt-ltb _ MOST_NUMBERS (omega arith) in
    let next : State = need (inside f (ns ++ n ∷ [])) in
    let same : led (ns ++ n ∷ []) ++ tail ≡ led ns ++ (n ++ 32 ∷ tail) = ap (λ l. l ++ tail) (led_push ns n) ∙ simp append_assoc in
    ap (outcome (need (inside f ns))) (append_assoc n (32 ∷ tail) (41 ∷ rest))
    ∙ through_number (inside f ns) n (32 ∷ tail ++ 41 ∷ rest) h.0
    ∙ goes (digits (inside f ns) n) next 32 (tail ++ 41 ∷ rest) (cond-true (ltb (suc (length ns)) MOST_NUMBERS) (Some next) None small)
    ∙ through_list f (ns ++ n ∷ []) m ms rest h.1 (simp length_push (omega arith))
    ∙ ap (λ l. outcome (closed (with_arg f (list l))) rest) same

-- the state after an argument
abbrev pub behind : Form → Arg → State
behind f (number ds) = digits (top f) ds
behind f (list bs) = closed (with_arg f (list bs))

pub through_arg : (f : Form) (a : Arg) (rest : List ℕ) → SoundArg a → outcome (need (top f)) (spelled_arg a ++ rest) ≡ outcome (behind f a) rest
through_arg f (number ds) rest h = through_number (top f) ds rest h
through_arg f (list bs) rest h = listed_arg h.each h.sound h.some h.few h.bytes
  where
    listed_arg : (ns : List (List ℕ)) → AllByRecursion Numeral ns → 1 ≤ length ns → length ns ≤ MOST_NUMBERS → bs ≡ spaced ns → outcome (need (top f)) ((40 ∷ (bs ++ 41 ∷ [])) ++ rest) ≡ outcome (closed (with_arg f (list bs))) rest
    listed_arg [] all some few e = absurd (omega arith)
    listed_arg (n ∷ ms) all some few e =
        let P : List ℕ → Type 0 = λ l. outcome (need (inside f [])) (l ++ 41 ∷ rest) ≡ outcome (closed (with_arg f (list l))) rest in
        ap (outcome (need (inside f []))) (append_assoc bs (41 ∷ []) rest) ∙ subst P (sym e) (through_list f [] n ms rest all (omega arith))

-- where the form so far may end, or take one more argument
pub record Ready (s : State) (f : Form) : Type 0 where
  pub space : step s 32 ≡ Some (need (top f))
  pub close : step s 41 ≡ Some (done f)

pub ready_word : (w : List ℕ) → Word w → Ready (word w) (record { head = w; args = [] })
ready_word [] h = absurd (omega (arith, h.1))
ready_word (x ∷ w) h = record { space = refl; close = refl }

pub ready_behind : (f : Form) (a : Arg) → Ready (behind f a) (with_arg f a)
ready_behind f (number ds) = record { space = refl; close = refl }
ready_behind f (list bs) = record { space = refl; close = refl }

through_args : (s : State) (f : Form) (more : List Arg) → Ready s f → AllByRecursion SoundArg more → outcome s (flat_map (λ a. 32 ∷ spelled_arg a) more ++ 41 ∷ []) ≡ whole (record { head = f.head; args = f.args ++ more })
through_args s f [] r h = goes s (done f) 41 [] r.close ∙ ap (λ l. whole (record { head = f.head; args = l })) (sym (append-nil f.args))
through_args s f (a ∷ more) r h =
    let tail : List ℕ = flat_map (λ a. 32 ∷ spelled_arg a) more ++ 41 ∷ [] in
    ap (outcome s) (append_assoc (32 ∷ spelled_arg a) (flat_map (λ a. 32 ∷ spelled_arg a) more) (41 ∷ []))
    ∙ goes s (need (top f)) 32 (spelled_arg a ++ tail) r.space
    ∙ through_arg f a tail h.0
    ∙ through_args (behind f a) (with_arg f a) more (ready_behind f a) h.1
    ∙ ap (λ l. whole (record { head = f.head; args = l })) (append_assoc f.args (a ∷ []) more)

-- a form is read back from its spelling
pub complete : (f : Form) → Sound f → outcome start (spelled f) ≡ whole f
complete f h =
    let tail : List ℕ = flat_map (λ a. 32 ∷ spelled_arg a) f.args in
    ap (λ l. outcome start (40 ∷ l)) (append_assoc f.head tail (41 ∷ []))
    ∙ through_word f.head (tail ++ 41 ∷ []) h.head
    ∙ through_args (word f.head) (record { head = f.head; args = [] }) f.args (ready_word f.head h.head) h.args

pub reads_form : (line : List ℕ) (f : Form) → outcome start line ≡ whole f → Sound f × (spelled f ≡ line)
reads_form line f e = subst (Says start line) e (says start line tt)

pub never : (o : Outcome) (f : Form) (k : ℕ) → o ≡ whole f → o ≡ stuck k → ⊥
never o f k p q = let z : ◌≡◌ {A = ℕ} 0 1 = cc in omega arith

pub not_form_lem : (line : List ℕ) (left : ℕ) → outcome start line ≡ stuck left → NotForm line (length line - left)
not_form_lem line left e =
    let n : ℕ = length line - left in
    let at : Blocked start line left = subst (Says start line) e (says start line tt) in
    record {
      none = λ f h s. never _ f left (ap (outcome start) (sym s) ∙ complete f h) e;
      longest = record {
        within = omega arith;
        begins = subst Begins at.leads (completes at.at at.good);
        longest = λ m past in-line b.
            let k = stays start line b.rest m left tt e (omega (arith, at.within)) in-line in
            never _ b.form k.0 (ap (outcome start) b.whole ∙ complete b.form b.sound) k.1;
      };
    }

-- one form to a line
pub one_form : (f g : Form) → Sound f → Sound g → spelled f ≡ spelled g → f ≡ g
one_form f g h k e = let p = complete f h in let q = complete g k in let r = ap (outcome start) e in cc
