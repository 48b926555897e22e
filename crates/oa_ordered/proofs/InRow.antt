-- What calls of a map do in one row, where the key is or would stand there.
use Rattle.std.proofs.Common.{◌≡◌, ◌∙◌, ℕ, suc, List, ◌∷◌, ◌++◌, Some, None, take, drop, get_or, slice_get, sym, ap, subst}
use Rattle.std.specs.List.{insert, remove}
use Rattle.std.specs.Option.{option_map}
use Rattle.std.specs.Map.{lookup, remove_entry, set_value}
use Rattle.std.specs.BTreeMap.{insert_entry, is_at}
use Rattle.std.specs.declared.cmp.Ordering.{Ordering}
use Rattle.std.specs.declared.cmp.Ordering.TheVariants.{Equal}
use Rattle.std.proofs.lemmas.List.{take-append-drop}
use Rattle.oa_ordered.specs.Rows.{IsFirst, IsFoundIn, IsGapIn, with_value_at}
use Rattle.oa_ordered.proofs.Joined.{drop_next, get_is, parts_at, some_at, value_at}
use Rattle.oa_ordered.proofs.Split.{insert_gap, insert_here, lookup_gap, lookup_here, remove_gap, remove_here, set_gap, set_here}

module _ {K X : Type 0} (cmp : K → K → Ordering) (key : K) (es : List (K × X)) {seen : List (K × X)} (same : seen ≡ es) (at : ℕ) where
  module _ (place : IsFoundIn cmp key seen at) where
    there : IsFoundIn cmp key es at
    there = subst (λ all. IsFoundIn cmp key all at) same place

    entry : (e : K × X) × (e ≡ get_or es at e)
    entry = some_at es at there.place

    abbrev front : List (K × X)
    front = take at es

    abbrev back : List (K × X)
    back = drop (suc at) es

    parts : es ≡ front ++ entry.0 ∷ back
    parts = subst (λ x. es ≡ front ++ x ∷ back) (sym entry.1) (parts_at es at entry.0 there.place)

    here : cmp key entry.0.0 ≡ Equal
    here = subst (IsFirst cmp key) (subst (λ x. drop at es ≡ x ∷ back) (sym entry.1) (drop_next es at entry.0 there.place)) there.here

    looked_up : lookup (is_at (cmp key)) es ≡ Some entry.0.1
    looked_up = ap (lookup (is_at (cmp key))) parts ∙ lookup_here cmp key entry.0 back here front there.below

    pub row_read : option_map (λ e. e.1) (slice_get es at) ≡ lookup (is_at (cmp key)) es
    row_read = ap (option_map (λ e. e.1)) (get_is es at entry.0 entry.0 there.place entry.1) ∙ sym looked_up

    pub row_lookup : (e d : K × X) → e ≡ get_or es at d → lookup (is_at (cmp key)) es ≡ Some e.1
    row_lookup e d is = sym row_read ∙ ap (option_map (λ x. x.1)) (get_is es at e d there.place is)

    pub row_set : (w : X) → with_value_at es at w ≡ set_value (is_at (cmp key)) es w
    row_set w = value_at es at entry.0 entry.0 w there.place entry.1
        ∙ sym (ap (λ all. set_value (is_at (cmp key)) all w) parts ∙ set_here cmp key entry.0 back here front w there.below)

    pub row_insert : (w : X) → with_value_at es at w ≡ insert_entry cmp es key w
    row_insert w = value_at es at entry.0 entry.0 w there.place entry.1
        ∙ sym (ap (λ all. insert_entry cmp all key w) parts ∙ insert_here cmp key entry.0 back here front w there.below)

    pub row_remove : remove es at ≡ remove_entry (is_at (cmp key)) es
    row_remove = sym (ap (remove_entry (is_at (cmp key))) parts ∙ remove_here cmp key entry.0 back here front there.below)

  module _ (place : IsGapIn cmp key seen at) where
    free : IsGapIn cmp key es at
    free = subst (λ all. IsGapIn cmp key all at) same place

    halves : es ≡ take at es ++ drop at es
    halves = sym (take-append-drop at es)

    pub row_absent : lookup (is_at (cmp key)) es ≡ None
    row_absent = ap (lookup (is_at (cmp key))) halves ∙ lookup_gap cmp key (take at es) (drop at es) free.below free.above

    pub row_put : (v : X) → insert es at (key, v) ≡ insert_entry cmp es key v
    row_put v = sym (ap (λ all. insert_entry cmp all key v) halves ∙ insert_gap cmp key (take at es) v (drop at es) free.below free.above)

    pub row_gap_remove : remove_entry (is_at (cmp key)) es ≡ es
    row_gap_remove = ap (remove_entry (is_at (cmp key))) halves ∙ (remove_gap cmp key (take at es) (drop at es) free.below free.above ∙ take-append-drop at es)

    pub row_gap_set : (w : X) → set_value (is_at (cmp key)) es w ≡ es
    row_gap_set w = ap (λ all. set_value (is_at (cmp key)) all w) halves
        ∙ (set_gap cmp key (take at es) (drop at es) w free.below free.above ∙ take-append-drop at es)
