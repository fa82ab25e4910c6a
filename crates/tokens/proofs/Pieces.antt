-- What the readers of the parts of a line answer.
use Rattle.std.proofs.Common.{Bor, ◌≡◌, ℕ, suc, ◌+◌, ◌-◌, ◌<◌, ◌≤◌, true, false, ◌&&◌, eqb, ltb, List, [], ◌∷◌, ◌++◌, length, get_or, take, drop, Some, None, Option, Ok, Err, Result, MatchResult, IsErrAnd, sym, refl, ap, ◌∙◌, subst, ⊎_elim, append_assoc, add-zero, one-add, arith, length-append, take-append-drop, length-take-le, get_or-drop}
use lib.Seq.{take-append-add}
use Rattle.std.specs.Int.{is_in_range}
use Rattle.std.proofs.lemmas.Result.{MatchResult-at_ok, MatchResult-at_err, err_from_is_err_and}
use Rattle.std.proofs.lemmas.List.{take_rest, take_at, drop_more, get_or_at, get_or-append-add, length_push}
use Rattle.std.proofs.lemmas.Bool.{cond_both, cond-true, cond-false, and_from, and_left, and_right, eqb-true, ne_eqb, eq-eqb, lt-ltb, le-ltb, le-leb, cases_lt}
use Rattle.grammar.specs.Grammar.{spaced, Numbers, Arg, number, list, spelled_arg, SoundArg, Form}
use Rattle.grammar.specs.Machine.{with_arg, top, inside, State, start, word, need, digits, closed, grows, step, whole, stuck, outcome}
use Rattle.tokens.specs.Ends.{Ends}
use Rattle.grammar.specs.declared.line.TheConstants.{MOST_DIGITS, MOST_LETTERS, MOST_NUMBERS}
use Rattle.tokens.specs.Pieces.{Run, Counted, Shut, NoList, Argued, Headed, Begun, More, EndStays}
use Rattle.tokens.specs.Tokens.{arg_of, bytes_of}
use Rattle.tokens.specs.declared.token.Part.{Part}
use Rattle.tokens.specs.declared.token.Part.TheVariants.{Word as Lettered, Number as Figures, List as Listed}
use Rattle.grammar.proofs.Reading.{goes, through_letters, through_number, through_arg}

-- `tail` in `[b, tail @ ..]`
tail_is : (b : ℕ) (bs : List ℕ) → take (length (b ∷ bs) - 1) (drop 1 (b ∷ bs)) ≡ bs
tail_is b bs = take_rest (b ∷ bs) 1

-- a lone zero, or a number that begins with 1 to 9

zero_alone : (b : ℕ) (bs : List ℕ) → b ≡ 48 → Counted (b ∷ bs) (b ∷ []) bs
zero_alone b bs e = record {
  numeral = (and_from _ _ (and_from _ _ (le-leb 48 b (omega arith)) (le-leb b 57 (omega arith))) refl, omega arith, omega arith, λ _. refl);
  parts = refl;
  stops = and_right _ _ (cond-true _ _ _ (eq-eqb b 48 e));
}

with_more : (b : ℕ) (bs : List ℕ) (n : ℕ) → 49 ≤ b → b ≤ 57 → Run 48 57 (MOST_DIGITS - 1) bs n → Counted (b ∷ bs) (b ∷ take n bs) (drop n bs)
with_more b bs n low high s =
    let long : length (take n bs) ≡ n = length-take-le n bs s.in_bytes in
    let next : get_or (drop n bs) 0 0 ≡ get_or bs n 0 = get_or-drop n bs 0 0 ∙ ap (λ i. get_or bs i 0) (add-zero n) in
    record {
      numeral = (and_from _ _ (and_from _ _ (le-leb 48 b (omega arith)) (le-leb b 57 high)) s.all, omega arith, omega (arith, s.few), λ e. absurd (omega arith));
      parts = ap (λ l. b ∷ l) (sym (take-append-drop n bs));
      stops = ⊎_elim
          (λ h. and_left _ _ (ap (is_in_range 48 57) next ∙ s.stops h))
          (λ h. and_right _ _ (cond-false _ _ _ (ne_eqb b 48 (omega arith)) ∙ le-ltb _ 13 (omega arith)))
          (cases_lt n 12);
    }

pub counted_zero : (bs front back : List ℕ) → 0 < length bs → get_or bs 0 0 ≡ 48 → front ≡ take 1 bs → back ≡ take (length bs - 1) (drop 1 bs) → Counted bs front back
counted_zero [] front back some e p q = absurd (omega arith)
counted_zero (b ∷ bs) front back some e p q =
    let C : List ℕ → List ℕ → Type 0 = λ x y. Counted (b ∷ bs) x y in
    subst (λ x. C x back) (sym p) (subst (C (b ∷ [])) (sym (q ∙ tail_is b bs)) (zero_alone b bs e))

pub counted : (bs front back : List ℕ) (n : ℕ) → 0 < length bs → 49 ≤ get_or bs 0 0 → get_or bs 0 0 ≤ 57 → Run 48 57 (MOST_DIGITS - 1) (take (length bs - 1) (drop 1 bs)) n → front ≡ take (1 + n) bs → back ≡ drop (1 + n) bs → Counted bs front back
counted [] front back n some low high r p q = absurd (omega arith)
counted (b ∷ bs) front back n some low high r p q =
    let C : List ℕ → List ℕ → Type 0 = λ x y. Counted (b ∷ bs) x y in
    let here = with_more b bs n low high (subst (λ l. Run 48 57 (MOST_DIGITS - 1) l n) (tail_is b bs) r) in
    let e : take (1 + n) (b ∷ bs) ≡ b ∷ take n bs = rw one-add in
    let f : drop (1 + n) (b ∷ bs) ≡ drop n bs = rw one-add in
    subst (λ x. C x back) (sym (p ∙ e)) (subst (C (b ∷ take n bs)) (sym (q ∙ f)) here)

-- a byte that leads nowhere
dies : (s : State) (b : ℕ) (bs : List ℕ) → step s b ≡ None → outcome s (b ∷ bs) ≡ stuck (length (b ∷ bs))
dies s b bs e = ap (λ o. elim o [ None ↦ stuck (suc (length bs)) | Some t ↦ outcome t bs ]) e

-- after a number in a list

pub shut_one : (most : ℕ) (bs ds after : List ℕ) → 0 < most → Counted bs ds after → get_or after 0 0 ≡ 41 → Shut most bs (length ds)
shut_one most bs ds [] room k e = absurd (omega arith)
shut_one most bs ds (b ∷ after) room k e = subst (λ l. Shut most l (length ds)) (sym k.parts) (record {
  in_bytes = simp length-append (omega arith);
  numbers = subst (Numbers most) (sym (take_at ds (b ∷ after) _ refl)) (record {
    each = ds ∷ [];
    sound = (k.numeral, tt);
    some = omega arith;
    few = omega arith;
    bytes = refl;
  });
  bracket = get_or_at ds b after 0 _ refl ∙ e;
})

spaced_more : (d : List ℕ) (ns : List (List ℕ)) → 1 ≤ length ns → spaced (d ∷ ns) ≡ d ++ 32 ∷ spaced ns
spaced_more d [] h = absurd (omega arith)
spaced_more d (n ∷ ns) h = refl

-- one space, and more numbers
pub shut_more : (most : ℕ) (bs ds all after : List ℕ) (n : ℕ) → 1 < most → Counted bs ds all → all ≡ 32 ∷ after → Shut (most - 1) after n → Shut most bs (length ds + 1 + n)
shut_more most bs ds all after n room k e t =
    let here : ds ++ all ≡ (ds ++ 32 ∷ []) ++ after = ap (λ l. ds ++ l) e ∙ sym (append_assoc ds (32 ∷ []) after) in
    let front : length (ds ++ 32 ∷ []) ≡ length ds + 1 = length_push ds 32 in
    let cut : take (length ds + 1 + n) ((ds ++ 32 ∷ []) ++ after) ≡ (ds ++ 32 ∷ []) ++ take n after = take_past (ds ++ 32 ∷ []) after (length ds + 1) n front in
    subst (λ l. Shut most l (length ds + 1 + n)) (sym (k.parts ∙ here)) (record {
      in_bytes = simp length-append (omega (arith, t.in_bytes));
      numbers = subst (Numbers most) (sym cut) (record {
        each = ds ∷ t.numbers.each;
        sound = (k.numeral, t.numbers.sound);
        some = omega arith;
        few = omega (arith, t.numbers.few);
        bytes = append_assoc ds (32 ∷ []) (take n after) ∙ ap (λ l. ds ++ 32 ∷ l) t.numbers.bytes ∙ sym (spaced_more ds t.numbers.each t.numbers.some);
      });
      bracket = get_or_past_front (ds ++ 32 ∷ []) after (length ds + 1) n front ∙ t.bracket;
    })
  where
    take_past : (p q : List ℕ) (m n : ℕ) → length p ≡ m → take (m + n) (p ++ q) ≡ p ++ take n q
    take_past p q m n h = subst (λ m. take (m + n) (p ++ q) ≡ p ++ take n q) h (take-append-add p q n)

    get_or_past_front : (p q : List ℕ) (m n : ℕ) → length p ≡ m → get_or (p ++ q) (m + n) 0 ≡ get_or q n 0
    get_or_past_front p q m n h = subst (λ m. get_or (p ++ q) (m + n) 0 ≡ get_or q n 0) h (get_or-append-add p q n 0)

room_after : (ns : List (List ℕ)) (ds : List ℕ) (most : ℕ) → 1 < most → length ns + most ≡ MOST_NUMBERS → length (ns ++ ds ∷ []) + (most - 1) ≡ MOST_NUMBERS
room_after ns ds most h k = simp length_push (omega arith)

pub no_list_more : (most : ℕ) (bs ds all after : List ℕ) (left : List ℕ) → 1 < most → Counted bs ds all → all ≡ 32 ∷ after → NoList (most - 1) after left → NoList most bs left
no_list_more most bs ds all after left room k e t =
    subst (λ l. NoList most l left) (sym (k.parts ∙ ap (λ l. ds ++ l) e)) (
      simp length-append (omega (arith, t.0)),
      λ f ns full.
          let next : State = need (inside f (ns ++ ds ∷ [])) in
          let small : ltb (suc (length ns)) MOST_NUMBERS ≡ true = lt-ltb _ MOST_NUMBERS (omega arith) in
          through_number (inside f ns) ds (32 ∷ after) k.numeral
          ∙ goes (digits (inside f ns) ds) next 32 after (cond-true (ltb (suc (length ns)) MOST_NUMBERS) (Some next) None small)
          ∙ t.1 f (ns ++ ds ∷ []) (room_after ns ds most room full),
    )

-- the byte after a number goes on with no list
pub no_list_here : (most : ℕ) (bs ds after : List ℕ) → 0 < most → Counted bs ds after → (0 < length after → get_or after 0 0 ≡ 41 → ⊥) → ((tail : List ℕ) → after ≡ 32 ∷ tail → most ≤ 1) → NoList most bs after
no_list_here most bs ds after some k apart full =
    subst (λ l. NoList most l after) (sym k.parts) (
      simp length-append (omega arith),
      λ f ns h. through_number (inside f ns) ds after k.numeral ∙ blocked f ns h after k.stops apart full,
    )
  where
    blocked : (f : Form) (ns : List (List ℕ)) → length ns + most ≡ MOST_NUMBERS → (after : List ℕ) → (is_in_range 48 57 (get_or after 0 0) && grows ds) ≡ false → (0 < length after → get_or after 0 0 ≡ 41 → ⊥) → ((tail : List ℕ) → after ≡ 32 ∷ tail → most ≤ 1) → outcome (digits (inside f ns) ds) after ≡ stuck (length after)
    blocked f ns h [] stop apart full = refl
    blocked f ns h (b ∷ after) stop apart full =
        dies (digits (inside f ns) ds) b after (cond-false _ _ _ stop
        ∙ cond_both (eqb b 32) _ _ (λ o. o ≡ None)
        (λ e. cond-false _ _ _ (le-ltb (suc (length ns)) MOST_NUMBERS (omega (arith, full after (ap (λ c. c ∷ after) (eqb-true b 32 e))))))
        (λ _. cond-false _ _ _ (ne_eqb b 41 (apart (omega arith)))))

-- the head

at_open : (b : ℕ) (bs : List ℕ) → b ≡ 40 → outcome start (b ∷ bs) ≡ outcome (word []) bs
at_open b bs e = goes start (word []) b bs (cond-true (eqb b 40) (Some (word [])) None (eq-eqb b 40 e))

alike : (s t : State) (b : ℕ) (bs : List ℕ) → step s b ≡ step t b → outcome s (b ∷ bs) ≡ outcome t (b ∷ bs)
alike s t b bs e = ap (λ (o : Option State). elim o [ None ↦ stuck (suc (length bs)) | Some t ↦ outcome t bs ]) e

-- what the next byte can do no longer depends on how the word, or the number, began
word_over : (w rest : List ℕ) → 1 ≤ length w → (is_in_range 97 122 (get_or rest 0 0) && ltb (length w) MOST_LETTERS) ≡ false → outcome (word w) rest ≡ outcome (closed (record { head = w; args = [] })) rest
word_over [] rest some stop = absurd (omega arith)
word_over (x ∷ w) [] some stop = refl
word_over (x ∷ w) (b ∷ bs) some stop = alike (word (x ∷ w)) (closed (record { head = x ∷ w; args = [] })) b bs (cond-false _ _ _ stop)

number_over : (f : Form) (ds rest : List ℕ) → (is_in_range 48 57 (get_or rest 0 0) && grows ds) ≡ false → outcome (digits (top f) ds) rest ≡ outcome (closed (with_arg f (number ds))) rest
number_over f ds [] stop = refl
number_over f ds (b ∷ bs) stop = alike (digits (top f) ds) (closed (with_arg f (number ds))) b bs (cond-false _ _ _ stop)

pub headed : (bs w rest : List ℕ) (n : ℕ) → 0 < length bs → get_or bs 0 0 ≡ 40 → Run 97 122 MOST_LETTERS (take (length bs - 1) (drop 1 bs)) n → 0 < n → w ≡ take n (take (length bs - 1) (drop 1 bs)) → rest ≡ drop n (take (length bs - 1) (drop 1 bs)) → Headed bs w rest
headed [] w rest n some e r more p q = absurd (omega arith)
headed (b ∷ bs) w rest n some e r more p q =
    let s : Run 97 122 MOST_LETTERS bs n = subst (λ l. Run 97 122 MOST_LETTERS l n) (tail_is b bs) r in
    let p' : w ≡ take n bs = p ∙ ap (take n) (tail_is b bs) in
    let q' : rest ≡ drop n bs = q ∙ ap (drop n) (tail_is b bs) in
    let long : length (take n bs) ≡ n = length-take-le n bs s.in_bytes in
    let next : get_or (drop n bs) 0 0 ≡ get_or bs n 0 = get_or-drop n bs 0 0 ∙ ap (λ i. get_or bs i 0) (add-zero n) in
    let stop : (is_in_range 97 122 (get_or (drop n bs) 0 0) && ltb (length (take n bs)) MOST_LETTERS) ≡ false =
    ⊎_elim
    (λ h. and_left _ _ (ap (is_in_range 97 122) next ∙ s.stops h))
    (λ h. and_right _ _ (le-ltb (length (take n bs)) MOST_LETTERS (omega arith)))
    (cases_lt n MOST_LETTERS) in
    let here : Headed (b ∷ bs) (take n bs) (drop n bs) = record {
      word = (s.all, omega arith, omega (arith, s.few));
      parts = ap (λ c. c ∷ bs) e ∙ ap (λ l. 40 ∷ l) (sym (take-append-drop n bs));
      leads = at_open b bs e ∙ ap (outcome (word [])) (sym (take-append-drop n bs))
          ∙ through_letters [] (take n bs) (drop n bs) s.all (omega (arith, s.few))
          ∙ word_over (take n bs) (drop n bs) (omega arith) stop;
    } in
    subst (λ x. Headed (b ∷ bs) x rest) (sym p') (subst (λ y. Headed (b ∷ bs) (take n bs) y) (sym q') here)

-- the first letter, and those that follow it
run_more : (lo hi most n : ℕ) (bs : List ℕ) → 0 < length bs → is_in_range lo hi (get_or bs 0 0) ≡ true → Run lo hi most (take (length bs - 1) (drop 1 bs)) n → Run lo hi (suc most) bs (1 + n)
run_more lo hi most n [] some first r = absurd (omega arith)
run_more lo hi most n (b ∷ bs) some first r =
    let s : Run lo hi most bs n = subst (λ l. Run lo hi most l n) (tail_is b bs) r in
    record { in_bytes = omega (arith, s.in_bytes); few = omega (arith, s.few); all = rw one-add (and_from _ _ first s.all); stops = λ h. rw one-add (s.stops (omega arith)) }

pub run_of_word : (n : ℕ) (bs : List ℕ) → 0 < length bs → 97 ≤ get_or bs 0 0 → get_or bs 0 0 ≤ 122 → Run 97 122 (MOST_LETTERS - 1) (take (length bs - 1) (drop 1 bs)) n → Run 97 122 MOST_LETTERS bs (1 + n)
run_of_word n bs some low high r = run_more 97 122 (MOST_LETTERS - 1) n bs some (and_from _ _ (le-leb 97 (get_or bs 0 0) low) (le-leb (get_or bs 0 0) 122 high)) r

-- the word stands after one byte
pub first_word : (line rest : List ℕ) (letters : Bor (List ℕ)) → Headed line letters.now rest → Begun line (record { part = Lettered letters; place = 1 }) rest
first_word line rest letters h = record {
  word = refl;
  sound = h.word;
  behind = refl;
  placed = subst (λ l. take 1 l ++ (letters.now ++ rest) ≡ l) (sym h.parts) refl;
  leads = h.leads;
}

-- an argument

pub argued_number : (bs rest : List ℕ) (p : Part) (ds : List ℕ) → arg_of p ≡ number ds → Counted bs ds rest → Argued bs p rest
argued_number bs rest p ds e k =
    let A : Arg → Type 0 = λ a. SoundArg a × (bs ≡ spelled_arg a ++ rest) × ((f : Form) → outcome (need (top f)) bs ≡ outcome (closed (with_arg f a)) rest) in
    let here : A (number ds) = (
      k.numeral,
      k.parts,
      λ f. ap (outcome (need (top f))) k.parts ∙ through_number (top f) ds rest k.numeral ∙ number_over f ds rest k.stops,
    ) in
    let there : A (arg_of p) = subst A (sym e) here in
    record { sound = there.0; parts = there.1; leads = there.2 }

pub argued_list : (bs rest : List ℕ) (p : Part) (n : ℕ) → 0 < length bs → get_or bs 0 0 ≡ 40 → Shut MOST_NUMBERS (take (length bs - 1) (drop 1 bs)) n → arg_of p ≡ list (take n (take (length bs - 1) (drop 1 bs))) → rest ≡ drop (n + 1) (take (length bs - 1) (drop 1 bs)) → Argued bs p rest
argued_list [] rest p n some e s r q = absurd (omega arith)
argued_list (b ∷ bs) rest p n some e s r q =
    let u : Shut MOST_NUMBERS bs n = subst (λ l. Shut MOST_NUMBERS l n) (tail_is b bs) s in
    let r' : arg_of p ≡ list (take n bs) = r ∙ ap (λ l. list (take n l)) (tail_is b bs) in
    let q' : rest ≡ drop (n + 1) bs = q ∙ ap (drop (n + 1)) (tail_is b bs) in
    let parts : bs ≡ take n bs ++ 41 ∷ rest =
    sym (take-append-drop n bs) ∙ ap (λ l. take n bs ++ l) (drop_more bs n 0 u.in_bytes ∙ ap (λ c. c ∷ drop (n + 1) bs) u.bracket ∙ ap (λ l. 41 ∷ l) (sym q')) in
    let line : b ∷ bs ≡ (40 ∷ (take n bs ++ 41 ∷ [])) ++ rest =
    ap (λ c. c ∷ bs) e ∙ ap (λ l. 40 ∷ l) (parts ∙ sym (append_assoc (take n bs) (41 ∷ []) rest)) in
    let A : Arg → Type 0 = λ a. SoundArg a × (b ∷ bs ≡ spelled_arg a ++ rest) × ((f : Form) → outcome (need (top f)) (b ∷ bs) ≡ outcome (closed (with_arg f a)) rest) in
    let here : A (list (take n bs)) = (u.numbers, line, λ f. ap (outcome (need (top f))) line ∙ through_arg f (list (take n bs)) rest u.numbers) in
    let there : A (arg_of p) = subst A (sym r') here in
    record { sound = there.0; parts = there.1; leads = there.2 }

-- `&s[0..n]` and `&s[n + 1..]`
pub front_is : (n : ℕ) (bs : List ℕ) → take (n - 0) bs ≡ take n bs
front_is n bs = let z : n - 0 ≡ n = omega arith in ap (λ k. take k bs) z

-- after the head and each argument

at_space : (f : Form) (bs : List ℕ) → outcome (closed f) (32 ∷ bs) ≡ outcome (need (top f)) bs
at_space f bs = refl

-- what is left after some of what was left
pub ends_of : (front rest line : List ℕ) → front ++ rest ≡ line → (length rest ≤ length line) × Ends line rest
ends_of front rest line e =
    let E : List ℕ → Type 0 = λ l. (length rest ≤ length l) × Ends l rest in
    subst E e (simp length-append (omega arith), ap (λ l. l ++ rest) (take_at front rest _ (simp length-append (omega arith))))

-- a part that a form holds as an argument is no word
bytes_of_sound : (p : Part) → SoundArg (arg_of p) → spelled_arg (arg_of p) ≡ bytes_of p
bytes_of_sound (Lettered w) h = absurd (omega (arith, h.1))
bytes_of_sound (Figures ds) h = refl
bytes_of_sound (Listed ns) h = refl

pub next_argument : (line all bs rest : List ℕ) (p : Part) (place : ℕ) → place ≡ length line - length bs → Ends line all → all ≡ 32 ∷ bs → Argued bs p rest → More line all (record { part = p; place = place }) rest × (length rest ≤ length line) × Ends line rest
next_argument line all bs rest p place at before e u =
    let ends : Ends line (32 ∷ bs) = subst (Ends line) e before in
    let bytes : bs ≡ bytes_of p ++ rest = u.parts ∙ ap (λ l. l ++ rest) (bytes_of_sound p u.sound) in
    let front : List ℕ = take (length line - length (32 ∷ bs)) line in
    let here = ends_of (front ++ 32 ∷ []) bs line (append_assoc front (32 ∷ []) bs ∙ ends) in
    let there = ends_of (front ++ 32 ∷ bytes_of p) rest line (append_assoc front (32 ∷ bytes_of p) rest ∙ ap (λ l. front ++ 32 ∷ l) (sym bytes) ∙ ends) in (
      record {
        spelled = e ∙ ap (λ l. 32 ∷ l) bytes;
        shorter = omega (arith, simp length-append at (ap length u.parts), ap length e);
        sound = u.sound;
        placed = ap (λ n. take n line ++ (bytes_of p ++ rest)) at ∙ ap (λ l. take (length line - length bs) line ++ l) (sym bytes) ∙ here.1;
        leads = λ f. ap (outcome (closed f)) e ∙ at_space f bs ∙ u.leads f;
      },
      there.0,
      there.1,
    )

-- what `map_err` answers, of a result that says so much
mapped : {T E D : Type 0} (P : T → Type 0) (Q : E → Type 0) (C : E → D → Type 0) (r : Result T E) (s : Result T D) → MatchResult r (λ x. s ≡ Ok x) (λ e. IsErrAnd s (C e)) → MatchResult r P Q → MatchResult s P (λ d. (e : E) × C e d × Q e)
mapped P Q C (Ok x) (Ok y) e p = let same : y ≡ x = cc in subst P (sym same) p
mapped P Q C (Ok x) (Err d) e p = let z : ◌≡◌ {A = ℕ} 0 1 = cc in absurd (omega arith)
mapped P Q C (Err x) (Ok y) e p = absurd e
mapped P Q C (Err x) (Err d) e p = (x, e, p)

-- what is known of a result that was mapped and turned out well, or ill
pub mapped_ok : {T E D : Type 0} (P : T → Type 0) (Q : E → Type 0) (C : E → D → Type 0) (r : Result T E) {s : Result T D} {x : T} → s ≡ Ok x → MatchResult r (λ y. s ≡ Ok y) (λ e. IsErrAnd s (C e)) → MatchResult r P Q → P x
mapped_ok P Q C r was cases known = MatchResult-at_ok _ _ _ was (mapped P Q C r _ cases known)

pub mapped_err : {T E D : Type 0} (P : T → Type 0) (Q : E → Type 0) (C : E → D → Type 0) (r : Result T E) {s : Result T D} {d : D} → s ≡ Err d → MatchResult r (λ y. s ≡ Ok y) (λ e. IsErrAnd s (C e)) → MatchResult r P Q → (e : E) × C e d × Q e
mapped_err P Q C r was cases known = MatchResult-at_err _ _ _ was (mapped P Q C r _ cases known)

-- what the exit of a `?` returns
pub exit_is : {T E : Type 0} {e : E} {r : Result T E} → IsErrAnd r (λ d. d ≡ e) → r ≡ Err e
exit_is h = let p = err_from_is_err_and _ h in p.1 ∙ ap Err p.2

-- at the end of the line
pub end_stays : EndStays
end_stays line bs after rest (Ok None) n k = (refl, k.0 ∙ n.0)
end_stays line bs after rest (Ok (Some t)) n k = let z : ◌≡◌ {A = ℕ} 41 32 = ap (λ l. get_or l 0 0) (sym (n.0 ∙ n.1) ∙ k.spelled) in absurd (omega arith)
end_stays line bs after rest (Err e) n k =
    let f : Form = record { head = []; args = [] } in
    absurd (never (ap (outcome (closed f)) (sym (n.0 ∙ n.1)) ∙ k.3 f))
  where
    never : {f : Form} {k : ℕ} → whole f ≡ stuck k → ⊥
    never e = cc
