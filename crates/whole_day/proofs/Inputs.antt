-- Lines taken from an input.
use Rattle.std.proofs.Common.{◌≡◌, ◌≢◌, ℕ, ◌+◌, ◌-◌, ◌<◌, ◌≤◌, Bool, true, false, List, [], ◌∷◌, ◌++◌, length, get_or, take, drop, None, Some, Ok, Err, Option, Result, sym, refl, ap, ◌∙◌, subst, arith, append_assoc, append-nil, length-take, length-drop, eq-eqb}
use Rattle.lines.proofs.Whole.{take_again}
use Rattle.grammar.specs.declared.line.TheConstants.{LONGEST_LINE}
use Rattle.memchr.specs.Find.{NoneBefore, Nowhere, Passes, is_byte}
use Rattle.std.specs.Prelude.{min, IsOk, OnOk}
use Rattle.std.proofs.Math.Seq.{take-append-add, take-length}
use Rattle.std.proofs.lemmas.Bool.{eqb-true}
use Rattle.std.proofs.lemmas.List.{get_or-take, take_min, take_more, take-append-drop, drop-take, drop-drop}
use Rattle.std.proofs.lemmas.List.Elements.{All-append, All-from_get_or, All-nil}
use Rattle.std.proofs.KnownBytes.{Consumes-kept, Consumes-nil, Consumes-trans, prepend_known-nil}
use Rattle.whole_day.specs.Inputs.{NextLine, Plain, Took, TookAhead, cut, feed}
use Rattle.std.specs.Io.KnownBytes.{Consumes, IsAtEnd, Keeps, prepend_known}

-- what holds of an answer without error, where there is none
pub of_ok : {T E P : Type 0} (r : Result T E) → IsOk r → OnOk r P → P
of_ok (Ok x) is holds = holds
of_ok (Err e) is holds = let none : ⊥ = cc in absurd none

-- as many bytes more as there is room for
pub with_room : (n m : ℕ) (xs ys : List ℕ) → length xs ≤ n → m ≡ min (length ys) (n - length xs) → xs ++ take m ys ≡ take n (xs ++ ys)
with_room n m xs ys h is =
    let parts : length xs + (n - length xs) ≡ n = omega arith in
    let swapped : min (length ys) (n - length xs) ≡ min (n - length xs) (length ys) = omega arith in
    ap (λ k. xs ++ take k ys) (is ∙ swapped)
    ∙ ap (λ l. xs ++ l) (take_min (n - length xs) ys)
    ∙ sym (take-append-add xs ys (n - length xs))
    ∙ ap (λ k. take k (xs ++ ys)) parts

Plain-append : (xs ys : List ℕ) → Plain xs → Plain ys → Plain (xs ++ ys)
Plain-append xs ys p q = All-append (λ byte. byte ≢ 10) xs ys p q

-- there is no line feed in front of the first
Plain-before : (bytes : List ℕ) (n : ℕ) → n ≤ length bytes → Nowhere (Passes (is_byte 10) bytes) 0 n → Plain (take n bytes)
Plain-before bytes n h none = All-from_get_or (λ byte. byte ≢ 10) (take n bytes) 0 (λ k low.
    let size = length-take n bytes in
    let within : k < n = omega arith in
    λ is. none k (omega arith) within (eq-eqb (get_or bytes k 0) 10 (sym (get_or-take n bytes k 0 within) ∙ is)))

module _ (ahead line line' : List ℕ) where
  kept_by : (bytes : List ℕ) → line' ≡ cut (line ++ bytes) → (raw : List ℕ) → line ≡ cut raw → line' ≡ cut (raw ++ bytes)
  kept_by bytes kept raw is = kept ∙ ap (λ l. cut (l ++ bytes)) is ∙ take_again (LONGEST_LINE + 1) raw bytes

  pub took_fed : (at : ℕ) → NoneBefore (Passes (is_byte 10) ahead) 0 (length ahead) at → Passes (is_byte 10) ahead at → line' ≡ cut (line ++ take at ahead) → Took ahead line line' (at + 1) true
  took_fed at none feed_at kept = record {
    bytes = take at ahead;
    plain = Plain-before ahead at (omega (arith, none.high)) none.before;
    kept = kept_by (take at ahead) kept;
    within = omega (arith, none.high);
    front = take_more ahead at 0 none.high ∙ ap (λ byte. take at ahead ++ byte ∷ []) (eqb-true (get_or ahead at 0) 10 feed_at);
    all = λ e. cc;
  }

  pub took_all : Nowhere (Passes (is_byte 10) ahead) 0 (length ahead) → line' ≡ cut (line ++ ahead) → Took ahead line line' (length ahead) false
  took_all none kept = record {
    bytes = ahead;
    plain = subst Plain (take-length ahead) (Plain-before ahead (length ahead) (omega arith) none);
    kept = kept_by ahead kept;
    within = omega arith;
    front = take-length ahead ∙ sym (append-nil ahead);
    all = λ e. refl;
  }

-- nothing read ahead
pub none_ahead : (known : Option (List ℕ)) (ahead : List ℕ) → ahead ≡ [] → prepend_known ahead known ≡ known
none_ahead known ahead none = ap (λ l. prepend_known l known) none ∙ prepend_known-nil known

-- as they stand before and after
pub took_ahead : (xs line line' : List ℕ) (at end n : ℕ) (fed : Bool) → at ≤ end → end ≤ length xs → Took (take (end - at) (drop at xs)) line line' n fed
    → TookAhead (take (end - at) (drop at xs)) (take (end - (at + n)) (drop (at + n) xs)) line line' fed
took_ahead xs line line' at end n fed low high took =
    let a = take (end - at) (drop at xs) in
    let size : length a ≡ end - at = simp (length-take, length-drop) (omega arith) in
    let within : n ≤ end - at = omega (arith, size, took.within) in
    let parts : n + (end - (at + n)) ≡ end - at = omega arith in
    let rest : drop n a ≡ take (end - (at + n)) (drop (at + n) xs) =
    ap (λ k. drop n (take k (drop at xs))) (sym parts) ∙ drop-take n (end - (at + n)) (drop at xs) ∙ ap (take (end - (at + n))) (drop-drop n at xs) in
    record {
      bytes = took.bytes;
      plain = took.plain;
      kept = took.kept;
      front = sym (take-append-drop n a) ∙ ap (λ l. l ++ drop n a) took.front ∙ ap (λ l. (took.bytes ++ feed fed) ++ l) rest;
      all = λ e. let none : end - (at + n) ≡ 0 = omega (arith, took.all e, size) in ap (λ k. take k (drop (at + n) xs)) none ∙ refl;
    }

-- a part of a line
pub record Part (old new : Option (List ℕ)) (line : List ℕ) : Type 0 where
  pub bytes : List ℕ
  pub plain : Plain bytes
  pub kept : line ≡ cut bytes
  pub taken : Consumes old new bytes

-- a part of a line, and the writer keeps what it holds
pub record Reading (old new before after : Option (List ℕ)) (line : List ℕ) : Type 0 where
  pub part : Part old new line
  pub held : Keeps before after

pub part_none : (old : Option (List ℕ)) (line : List ℕ) → line ≡ [] → Part old old line
part_none old line none = record { bytes = []; plain = All-nil (λ byte. byte ≢ 10); kept = none; taken = Consumes-nil old }

pub part_kept : (old new next : Option (List ℕ)) (line : List ℕ) → Part old new line → Keeps new next → Part old next line
part_kept old new next line p keeps = record { bytes = p.bytes; plain = p.plain; kept = p.kept; taken = Consumes-kept old new next p.bytes p.taken keeps }

consumed : (known : Option (List ℕ)) (before after front : List ℕ) → before ≡ front ++ after → Consumes (prepend_known before known) (prepend_known after known) front
consumed None before after front e = tt
consumed (Some xs) before after front e = ap (λ l. l ++ xs) e ∙ append_assoc front after xs

took_part : (old known : Option (List ℕ)) (before after line line' : List ℕ) (fed : Bool) (p : Part old (prepend_known before known) line) (t : TookAhead before after line line' fed)
    → Consumes old (prepend_known after known) ((p.bytes ++ t.bytes) ++ feed fed)
took_part old known before after line line' fed p t =
    subst (Consumes old (prepend_known after known)) (sym (append_assoc p.bytes t.bytes (feed fed)))
    (Consumes-trans old (prepend_known before known) (prepend_known after known) p.bytes (t.bytes ++ feed fed) p.taken (consumed known before after (t.bytes ++ feed fed) t.front))

pub part_line : (old known : Option (List ℕ)) (before after line line' : List ℕ) (fed : Bool) → fed ≡ true → Part old (prepend_known before known) line → TookAhead before after line line' fed
    → NextLine old (prepend_known after known) line' true
part_line old known before after line line' fed is p t = record {
  bytes = p.bytes ++ t.bytes;
  plain = Plain-append p.bytes t.bytes p.plain t.plain;
  kept = t.kept p.bytes p.kept;
  taken = subst (λ f. Consumes old (prepend_known after known) ((p.bytes ++ t.bytes) ++ feed f)) is (took_part old known before after line line' fed p t);
  last = λ e. cc;
}

pub part_more : (old known : Option (List ℕ)) (before after line line' : List ℕ) (fed : Bool) → fed ≡ false → Part old (prepend_known before known) line → TookAhead before after line line' fed
    → Part old (prepend_known after known) line'
part_more old known before after line line' fed is p t = record {
  bytes = p.bytes ++ t.bytes;
  plain = Plain-append p.bytes t.bytes p.plain t.plain;
  kept = t.kept p.bytes p.kept;
  taken = subst (Consumes old (prepend_known after known)) (ap (λ f. (p.bytes ++ t.bytes) ++ feed f) is ∙ append-nil (p.bytes ++ t.bytes)) (took_part old known before after line line' fed p t);
}

pub part_last : (old new : Option (List ℕ)) (line : List ℕ) → Part old new line → IsAtEnd new → NextLine old new line false
part_last old new line p end = record {
  bytes = p.bytes;
  plain = p.plain;
  kept = p.kept;
  taken = subst (Consumes old new) (sym (append-nil p.bytes)) p.taken;
  last = λ e. end;
}
