-- Elements that a closure makes, one by one, if the values that it captures never change.
use Rattle.std.proofs.Common.{◌≡◌, ℕ, zero, suc, ◌+◌, ◌⊎◌, List, [], ◌∷◌, length, replicate, slice_get, Some, Result, Ok, Err, IfOk, IfErr}
use Rattle.std.proofs.Common.{MatchResult, refl, sym, ap, ap₂, subst, ◌∙◌, ⊎_elim, arith, zero-add, ◌++◌, ◌<◌, ◌-◌, take, get_or, unwrap_or}
use Rattle.std.proofs.Common.{length-take}
use Rattle.std.proofs.lemmas.Bool.{cases_lt}
use Rattle.std.proofs.lemmas.Option.{none-some, slice_get-get_or, unwrap_or-slice_get}
use Rattle.std.proofs.lemmas.List.{get_or_append_left, get_or-append_right, get_or-take, get_or_past}
use Rattle.std.proofs.lemmas.List.FromFn.{fill_by_all}
use Rattle.oa_array.specs.promise.Arrays.{kept_by_position}
use Rattle.std.specs.List.{FoldsTo, enumerate_from}
use Rattle.oa_cells.specs.Fills.{IsFilledBy, IsStoppedBy}
use Rattle.oa_array.proofs.Counting.{same_inside}

pub same_cells : {X : Type 0} (xs ys : List X) → length xs ≡ length ys
    → ((k : ℕ) (x : X) → slice_get xs k ≡ Some x → slice_get ys k ≡ Some x) → xs ≡ ys
same_cells [] [] e h = refl
same_cells [] (y ∷ ys) e h = absurd (omega (arith, e))
same_cells (x ∷ xs) [] e h = absurd (omega (arith, e))
same_cells (x ∷ xs) (y ∷ ys) e h =
    ap₂ (λ z zs. z ∷ zs) (sym (same_inside y x (h 0 x refl))) (same_cells xs ys (omega (arith, e)) (λ k z. h (suc k) z))

pub replicate_is : {X : Type 0} (cells : List X) (n : ℕ) (cell : X) → length cells ≡ n
    → ((k : ℕ) (x : X) → slice_get cells k ≡ Some x → x ≡ cell) → cells ≡ replicate n cell
replicate_is [] zero cell e h = refl
replicate_is [] (suc n) cell e h = absurd (omega (arith, e))
replicate_is (x ∷ xs) zero cell e h = absurd (omega (arith, e))
replicate_is (x ∷ xs) (suc n) cell e h =
    ap₂ (λ z zs. z ∷ zs) (h 0 x refl) (replicate_is xs n cell (omega (arith, e)) (λ k z. h (suc k) z))

get_or_zero : {X : Type 0} (cells : List X) (k : ℕ) (blank : X) → ((j : ℕ) (x : X) → slice_get cells j ≡ Some x → x ≡ blank)
    → get_or cells k blank ≡ blank
get_or_zero cells k blank zeros =
    ⊎_elim
    (λ i. zeros k (get_or cells k blank) (slice_get-get_or cells k blank i))
    (λ i. get_or_past cells k blank i)
    (cases_lt k (length cells))

pub kept_at : {X : Type 0} (blank : X) (n : ℕ) (old cells new : List X) → new ≡ take n old ++ cells
    → ((k : ℕ) (x : X) → slice_get cells k ≡ Some x → x ≡ blank) → (k : ℕ) → k < n → get_or new k blank ≡ unwrap_or (slice_get old k) blank
kept_at {X} blank n old cells new e zeros k h =
    let at = ap (λ l. get_or l k blank) e in
    let long = length-take n old in
    let was = unwrap_or-slice_get old k blank in
    ⊎_elim
    (λ i. at ∙ get_or_append_left (take n old) cells blank k (omega (arith, long, i, h)) ∙ get_or-take n old k blank h ∙ sym was)
    (λ i.
    at ∙ get_or-append_right (take n old) cells (length old) k blank (omega (arith, long, i, h)) i
    ∙ get_or_zero cells (k - length old) blank zeros ∙ sym (get_or_past old k blank i) ∙ sym was)
    (cases_lt k (length old))

pub kept_is : {X : Type 0} (blank : X) (n : ℕ) (old cells new : List X) → new ≡ take n old ++ cells → length new ≡ n
    → ((k : ℕ) (x : X) → slice_get cells k ≡ Some x → x ≡ blank) → new ≡ kept_by_position blank n old
unfolding kept_by_position
kept_is blank n old cells new e count zeros =
    fill_by_all (λ p. unwrap_or (slice_get old p) blank) new n blank count (kept_at blank n old cells new e zeros)

module _ {S X E : Type 0} where
  folded : (step : S → ℕ → Result X E → S → Type 0) (Q : S → ℕ → X → Type 0)
      → ((p : S) (i : ℕ) (x : X) (q : S) → step p i (Ok x) q → Q p i x × (q ≡ p)) → (cells : List X) (first : S) (from : ℕ) (last : S)
      → FoldsTo (λ f cell g. step f cell.0 (Ok cell.1) g) first (enumerate_from from cells) last → (k : ℕ) (x : X)
      → slice_get cells k ≡ Some x → Q first (from + k) x
  folded step Q says [] first from last runs k x e = absurd (none-some x e)
  folded step Q says (cell ∷ cells) first from last runs zero x e =
      let one = says first from cell runs.0 runs.1 in
      let at : from ≡ from + 0 = omega arith in
      subst (λ i. Q first i x) at (subst (λ z. Q first from z) (same_inside cell x e) one.0)
  folded step Q says (cell ∷ cells) first from last runs (suc k) x e =
      let one = says first from cell runs.0 runs.1 in
      let at : from + 1 + k ≡ from + suc k = omega arith in
      subst (λ i. Q first i x) at (subst (λ p. Q p (from + 1 + k) x) one.1 (folded step Q says cells runs.0 (from + 1) last runs.2 k x e))

  -- A property of each result of the closure holds for each element.
  pub each_filled : {step : S → ℕ → Result X E → S → Type 0} {first : S} {from : ℕ} {cells : List X} → IsFilledBy step first from cells
      → (Q : S → ℕ → X → Type 0) → ((p : S) (i : ℕ) (x : X) (q : S) → step p i (Ok x) q → Q p i x × (q ≡ p)) → (k : ℕ) (x : X)
      → slice_get cells k ≡ Some x → Q first (from + k) x
  each_filled {step = step} {first = first} {from = from} {cells = cells} filled Q says = folded step Q says cells first from filled.last filled.calls

  -- A closure that never fails stops nothing.
  pub never_stopped : {step : S → ℕ → Result X E → S → Type 0} {first : S} {from n : ℕ} {error : E} → IsStoppedBy step first from n error
      → ((p : S) (i : ℕ) (e : E) (q : S) → step p i (Err e) q → ⊥) → ⊥
  never_stopped {from = from} {error = error} stopped never = never stopped.before (from + length stopped.cells) error stopped.after stopped.fails

  -- A row of zero values, if the closure returns nothing else.
  pub zeros_answer : (step : S → ℕ → Result X E → S → Type 0) (first : S) (r : Result (List X) E) (n : ℕ) (memory : E)
      → IfOk r (λ c. length c ≡ n) → IfOk r (λ c. IsFilledBy step first 0 c) → IfErr r (λ e. (e ≡ memory) ⊎ IsStoppedBy step first 0 n e)
      → (cell : S → X) → ((p : S) (i : ℕ) (x : X) (q : S) → step p i (Ok x) q → (x ≡ cell p) × (q ≡ p))
      → ((p : S) (i : ℕ) (e : E) (q : S) → step p i (Err e) q → ⊥) → MatchResult r (λ c. c ≡ replicate n (cell first)) (λ e. e ≡ memory)
  zeros_answer step first (Ok c) n memory count filled error cell says never =
      replicate_is c n (cell first) count (each_filled filled (λ p i x. x ≡ cell p) says)
  zeros_answer step first (Err e) n memory count filled error cell says never = ⊎_elim (λ m. m) (λ s. absurd (never_stopped s never)) error

  -- Copies of given elements, if the closure returns such copies.
  pub copies_answer : (step : S → ℕ → Result X E → S → Type 0) (first : S) (r : Result (List X) E) (from : S → List X) (n : ℕ)
      → n ≡ length (from first) → IfOk r (λ c. length c ≡ n) → IfOk r (λ c. IsFilledBy step first 0 c)
      → ((p : S) (i : ℕ) (x : X) (q : S) → step p i (Ok x) q → (slice_get (from p) i ≡ Some x) × (q ≡ p)) → IfOk r (λ c. c ≡ from first)
  copies_answer step first (Ok c) from n e count filled says =
      same_cells c (from first) (count ∙ e) (λ k x at. ap (slice_get (from first)) (sym (zero-add k))
      ∙ each_filled filled (λ p i z. slice_get (from p) i ≡ Some z) says k x at)
  copies_answer step first (Err e) from n m count filled says = tt

  -- Elements kept by position and zero values after them, if the closure returns zero values only.
  pub resized_answer : (step : S → ℕ → Result X E → S → Type 0) (first : S) (r : Result (Unit {0}) E) (old new : List X) (n : ℕ)
      (memory : E) → IfOk r (λ _. length new ≡ n)
      → IfOk r (λ _. (cells : List X) × (new ≡ take n old ++ cells) × IsFilledBy step first (length old) cells) → IfErr r (λ _. new ≡ old)
      → IfErr r (λ e. (e ≡ memory) ⊎ IsStoppedBy step first (length old) n e) → (cell : S → X)
      → ((p : S) (i : ℕ) (x : X) (q : S) → step p i (Ok x) q → (x ≡ cell p) × (q ≡ p))
      → ((p : S) (i : ℕ) (e : E) (q : S) → step p i (Err e) q → ⊥)
      → MatchResult r (λ _. new ≡ kept_by_position (cell first) n old) (λ e. (e ≡ memory) × (new ≡ old))
  resized_answer step first (Ok _) old new n memory count filled same error cell says never = kept_is (cell first) n old filled.0 new filled.1 count
      (each_filled filled.2 (λ p i x. x ≡ cell p) says)
  resized_answer step first (Err e) old new n memory count filled same error cell says never =
      (⊎_elim (λ m. m) (λ s. absurd (never_stopped s never)) error, same)
