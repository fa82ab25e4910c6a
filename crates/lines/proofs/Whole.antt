-- What reading a line as a form answers.
use Rattle.std.proofs.Common.{◌≡◌, ℕ, zero, suc, ◌+◌, ◌-◌, ◌≤◌, List, [], ◌∷◌, ◌++◌, map, length, take, Err, sym, refl, ap, ◌∙◌, subst, arith}
use Rattle.std.proofs.lemmas.List.{length_push, map_push, take-map}
use Rattle.std.specs.List.{All}
use Rattle.std.proofs.lemmas.List.Elements.{All-push, All-take}
use Rattle.grammar.specs.Grammar.{Arg, Form}
use Rattle.grammar.specs.declared.line.TheConstants.{LONGEST_LINE}
use Rattle.grammar.specs.Machine.{start, closed, outcome, stuck}
use Rattle.grammar.specs.Reads.{no_form}
use Rattle.grammar.proofs.Reading.{reads_form, not_form_lem}
use Rattle.lines.specs.Forms.{Found, ReadsForm}
use Rattle.lines.specs.declared.form.Parts.{Parts}
use Rattle.lines.specs.declared.form.TheConstants.{MOST_GATHERED}
use Rattle.tokens.specs.Pieces.{At, First, Next, More}
use Rattle.tokens.specs.Tokens.{arg_of, SoundPart}
use Rattle.tokens.specs.declared.token.Part.{Part}
use Rattle.tokens.specs.declared.token.Token.{Token}
use Rattle.units.specs.declared.fault.Fault.{Fault}

-- the form so far, and what is left of the line
abbrev pub Reached : (line w : List ℕ) → List Arg → (rest : List ℕ) → Type 0
Reached line w xs rest = outcome start line ≡ outcome (closed (record { head = w; args = xs })) rest

refused : (line : List ℕ) (left : List ℕ) (e : Fault) → length line ≤ LONGEST_LINE → At line left e → outcome start line ≡ stuck (length left) → ReadsForm line (Err e)
refused line left e h at o =
    let none = not_form_lem line (length left) o in
    (λ f is. none.none f is.sound is.bytes, λ wanted. no_form (length line - length left) h none at)

pub first_refused : (line before rest : List ℕ) (e : Fault) → length line ≤ LONGEST_LINE → First line before (Err e) rest → ReadsForm line (Err e)
first_refused line before rest e h k = refused line k.1 e h k.2 k.3

pub next_refused : (line bs rest w : List ℕ) (xs : List Arg) (e : Fault) → length line ≤ LONGEST_LINE → Reached line w xs bs → Next line bs (Err e) rest → ReadsForm line (Err e)
next_refused line bs rest w xs e h o k = refused line k.1 e h k.2 (o ∙ k.3 (record { head = w; args = xs }))

-- one more argument
read_on_lem : (line bs rest w : List ℕ) (xs : List Arg) (t : Token) → Reached line w xs bs → More line bs t rest → Reached line w (xs ++ arg_of t.part ∷ []) rest
read_on_lem line bs rest w xs t o k = o ∙ k.leads (record { head = w; args = xs })

-- the arguments so far: how many, and the first
pub record Gathered (line w : List ℕ) (parts : List Part) (count : ℕ) (rest : List ℕ) : Type 0 where
  pub args : List Arg
  pub counted : count ≡ length args
  pub kept : map arg_of parts ≡ take MOST_GATHERED args
  pub sound : All SoundPart parts
  pub reached : Reached line w args rest

pub take_again : {A : Type 0} (n : ℕ) (xs ys : List A) → take n (take n xs ++ ys) ≡ take n (xs ++ ys)
take_again zero xs ys = refl
take_again (suc n) [] ys = refl
take_again (suc n) (x ∷ xs) ys = ap (λ l. x ∷ l) (take_again n xs ys)

pub gather : {line bs rest w : List ℕ} {old new : List Part} {count : ℕ} {t : Token} → Gathered line w old count bs → More line bs t rest → new ≡ take MOST_GATHERED (old ++ t.part ∷ []) → Gathered line w new (count + 1) rest
gather {line} {bs} {rest} {w} {old} {new} {count} {t} g m is =
    let more : map arg_of (old ++ t.part ∷ []) ≡ take MOST_GATHERED g.args ++ arg_of t.part ∷ [] = map_push arg_of old t.part ∙ ap (λ l. l ++ arg_of t.part ∷ []) g.kept in
    record {
      args = g.args ++ arg_of t.part ∷ [];
      counted = simp length_push (omega (arith, g.counted));
      kept = ap (map arg_of) is ∙ sym (take-map arg_of MOST_GATHERED (old ++ t.part ∷ [])) ∙ ap (take MOST_GATHERED) more ∙ take_again MOST_GATHERED g.args (arg_of t.part ∷ []);
      sound = subst (All SoundPart) (sym is) (All-take SoundPart MOST_GATHERED _ (All-push SoundPart old t.part g.sound m.sound));
      reached = read_on_lem line bs rest w g.args t g.reached m;
    }

pub read : (line bs : List ℕ) (parts : Parts) → length line ≤ LONGEST_LINE → Gathered line parts.letters.now parts.args.items parts.count bs → bs ≡ 41 ∷ [] → Found line parts
read line bs parts h g k =
    let f : Form = record { head = parts.letters.now; args = g.args } in
    let r = reads_form line f (g.reached ∙ ap (outcome (closed f)) k) in
    record { form = f; is = record { short = h; sound = r.0; bytes = r.1 }; named = refl; counted = g.counted; kept = g.kept }
