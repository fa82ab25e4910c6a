-- Values written one after another to the front of a page.
use Rattle.std.proofs.Common.{◌≡◌, ℕ, ◌+◌, ◌*◌, ◌<◌, ◌≤◌, List, [], ◌∷◌, ◌++◌, map, length, get_or, take, drop, set, replicate, sym, refl, ap, ◌∙◌, subst, arith}
use Rattle.book.specs.Lists.{spliced}
use Rattle.book.specs.Opening.{all_day, Begun}
use Rattle.posting.specs.Amounts.{opened_account}
use Rattle.posting.specs.declared.pages.Pages.{Pages}
use Rattle.posting.specs.declared.account.Account.{Account}
use Rattle.std.proofs.lemmas.List.{append_assoc, drop_at, drop-drop, drop_more, flat_map_more, length-append, length-map, length_push, length-replicate, length-take-le, map_more, set_at, take_all, take_at, take_more}
use Rattle.std.specs.List.{flat_map}
use Rattle.units.specs.declared.limits.TheConstants.{BLOCKS}

-- the values ws behind the values vs
spliced_twice : {X : Type 0} (vs ws p : List X) (n : ℕ) → n ≡ length vs → spliced n ws (spliced 0 vs p) ≡ spliced 0 (vs ++ ws) p
spliced_twice vs ws p n e =
    let rest = drop (0 + length vs) p in
    let front : take n (vs ++ rest) ≡ vs = take_at vs rest n (sym e) in
    let far : drop (n + length ws) (vs ++ rest) ≡ drop (0 + length vs + length ws) p =
    sym (drop-drop (length ws) n (vs ++ rest)) ∙ ap (drop (length ws)) (drop_at vs rest n (sym e)) ∙ drop-drop (length ws) (0 + length vs) p in
    let long : 0 + length vs + length ws ≡ 0 + length (vs ++ ws) = omega (arith, length-append vs ws) in
    ap (λ a. a ++ (ws ++ drop (n + length ws) (vs ++ rest))) front
    ∙ ap (λ z. vs ++ (ws ++ z)) (far ∙ ap (λ k. drop k p) long)
    ∙ sym (append_assoc vs ws (drop (0 + length (vs ++ ws)) p))

pub length_days : (kws : List ℕ) → length (flat_map all_day kws) ≡ BLOCKS * length kws
unfolding all_day
length_days [] = refl
length_days (kw ∷ kws) = omega (arith, length-append (replicate BLOCKS kw) (flat_map all_day kws), length-replicate BLOCKS kw, length_days kws)

-- one more value behind the values vs
spliced_set : {X : Type 0} (vs p : List X) (y : X) (n : ℕ) → n ≡ length vs → n < length p → set (spliced 0 vs p) n y ≡ spliced 0 (vs ++ y ∷ []) p
spliced_set vs p y n e h =
    let at : 0 + length vs ≡ n = omega arith in
    let rest : drop (0 + length vs) p ≡ get_or p n y ∷ drop (n + 1) p = ap (λ k. drop k p) at ∙ drop_more p n y h in
    let long : n + 1 ≡ 0 + length (vs ++ y ∷ []) = omega (arith, length_push vs y) in
    ap (λ z. set (vs ++ z) n y) rest
    ∙ set_at vs (get_or p n y) (drop (n + 1) p) y n (sym e)
    ∙ sym (append_assoc vs (y ∷ []) (drop (n + 1) p))
    ∙ ap (λ k. (vs ++ y ∷ []) ++ drop k p) long

module _ (kws : List ℕ) (g : ℕ) (h : g < length kws) where
  so_many : length (take g kws) ≡ g
  so_many = length-take-le g kws (omega arith)

  -- the capacities of one more generator
  pub installed_more : (p page after : List ℕ) → page ≡ spliced 0 (flat_map all_day (take g kws)) p
      → after ≡ spliced (BLOCKS * g) (replicate BLOCKS (get_or kws g 0)) page → after ≡ spliced 0 (flat_map all_day (take (g + 1) kws)) p
  unfolding all_day
  installed_more p page after e written =
      let kw = get_or kws g 0 in
      let far : BLOCKS * g ≡ length (flat_map all_day (take g kws)) = omega (arith, length_days (take g kws), so_many) in
      written
      ∙ ap (spliced (BLOCKS * g) (all_day kw)) e
      ∙ spliced_twice (flat_map all_day (take g kws)) (all_day kw) p (BLOCKS * g) far
      ∙ ap (λ vs. spliced 0 vs p) (flat_map_more all_day [] (take g kws) kw ∙ ap (flat_map all_day) (sym (take_more kws g 0 h)))

  -- the account of one more generator
  pub accounts_more : (p page : List Account) (x : Account) → g < length p → x ≡ opened_account (get_or kws g 0) → page ≡ spliced 0 (map opened_account (take g kws)) p
      → set page g x ≡ spliced 0 (map opened_account (take (g + 1) kws)) p
  accounts_more p page x room is e =
      let far : g ≡ length (map opened_account (take g kws)) = omega (arith, length-map (take g kws) opened_account, so_many) in
      ap (set page g) is
      ∙ ap (λ xs. set xs g (opened_account (get_or kws g 0))) e
      ∙ spliced_set (map opened_account (take g kws)) p (opened_account (get_or kws g 0)) g far room
      ∙ ap (λ vs. spliced 0 vs p) (sym (map_more opened_account kws g 0 h))

-- all generators are through
pub written_all : {X : Type 0} (F : List ℕ → List X) (kws : List ℕ) (g : ℕ) (p page : List X) → length kws ≤ g → page ≡ spliced 0 (F (take g kws)) p → page ≡ spliced 0 (F kws) p
written_all F kws g p page h e = e ∙ ap (λ xs. spliced 0 (F xs) p) (take_all g kws h)

-- the numbers that were lent are the opening's
pub begun_for : (m n : ℕ) (lent installed : List ℕ) (p q : Pages) → m ≡ n → lent ≡ installed → Begun m lent p q → Begun n installed p q
begun_for m n lent installed p q e same begun =
    subst (λ (kws : List ℕ). Begun n kws p q) same (subst (λ (k : ℕ). Begun k lent p q) e begun)
