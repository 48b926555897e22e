-- The values of the parameters, made one after another.
use Rattle.std.proofs.Common.{◌≡◌, ◌≢◌, ◌⊎◌, inl, inr, ◌<◌, ◌≤◌, ◌+◌, ℕ, ℤ, pos, List, [], ◌∷◌, ◌++◌, drop, length}
use Rattle.std.proofs.Common.{get_or, Option, Some, None, Ok, Err, slice_get, unsigned_abs, refl, sym, ap, ◌∙◌, arith}
use Rattle.std.proofs.lemmas.List.{drop_more}
use Rattle.oa_model.specs.declared.var_type.ValueType.{ValueType}
use Rattle.oa_idl.specs.declared.parts.Parameter.{Parameter}
use Rattle.oa_variant.specs.declared.scalar.Scalar.{Scalar}
use Rattle.oa_variant.specs.declared.variant.Variant.{Variant}
use Rattle.oa_typelib.specs.declared.access.Kind.{Kind}
use Rattle.oa_typelib.specs.declared.access.Kind.TheVariants.{Get, Put}
use Rattle.oa_bind.specs.declared.fault.BindFault.{BindFault}
use Rattle.oa_bind.specs.promise.Bindings.{bound_call, given_new_value, new_value_of, parameter_value}
use Rattle.oa_bind.specs.promise.Bindings.{value_of_parameter}
use Rattle.oa_bind.specs.promise.Given.{Given, given_argument, argument_index, new_value_id}
use Rattle.oa_bind.specs.Given.{Stay, given_call}
use Rattle.oa_bind.specs.promise.Names.{complete, well_named}
use Rattle.oa_bind.specs.promise.Refusals.{each_at}
use Rattle.oa_bind.specs.Refusals.{lacks_memory}
use Rattle.oa_bind.proofs.Each.{with_front, each_breaks, each_goes_on}
use Rattle.oa_bind.proofs.Indices.{index_once, same_argument}

-- The argument of the next parameter has not moved: those moved out were for others.
pub value_stays : (named : List ℤ) (old mid : List Variant) (place : ℕ) (p : Parameter) → length named ≤ length old → length mid ≡ length old
    → Stay named old mid place
    → parameter_value (given_call named mid) place p ≡ parameter_value (given_call named old) place p
value_stays named old mid place p few len stay =
    let here : (i : ℕ) → argument_index named (length old) (pos place) ≡ Some i → slice_get mid i ≡ slice_get old i =
    λ i is. stay i (λ q less other. let same : q ≡ place = ap unsigned_abs (index_once named (length old) i (pos q) (pos place) few other is) in
    absurd (omega (arith, same, less))) in
    ap (value_of_parameter p) (same_argument named old mid place len here)

pub stay_more : (named : List ℤ) (old mid new : List Variant) (place : ℕ) → length mid ≡ length old → Stay named old mid place
    → ((i : ℕ) → argument_index named (length mid) (pos place) ≢ Some i → slice_get new i ≡ slice_get mid i) → Stay named old new (place + 1)
stay_more named old mid new place len stay others i none =
    others i (rw len (none place (omega arith))) ∙ stay i (λ q less. none q (omega (arith, less)))

-- a refused value is the refusal of all
pub key_breaks : (named : List ℤ) (old mid : List Variant) (parameters : List Parameter) (front : List Scalar) (place : ℕ) (p : Parameter) (fault : BindFault)
    → length named ≤ length old → length mid ≡ length old → Stay named old mid place → place < length parameters → get_or parameters place p ≡ p
    → with_front front (each_at (parameter_value (given_call named old)) place (drop place parameters)) ≡ each_at
    (parameter_value (given_call named old)) 0 parameters
    → (fault ≡ lacks_memory) ⊎ (parameter_value (given_call named mid) place p ≡ Err fault)
    → (fault ≡ lacks_memory) ⊎ (each_at (parameter_value (given_call named old)) 0 parameters ≡ Err fault)
key_breaks named old mid parameters front place p fault few len stay within here so_far (inl memory) = inl memory
key_breaks named old mid parameters front place p fault few len stay within here so_far (inr is) =
    let next : drop place parameters ≡ p ∷ drop (place + 1) parameters = rw here at (drop_more parameters place p within) in
    inr (each_breaks (parameter_value (given_call named old)) front parameters place p fault _ next (sym (value_stays named old mid place p few len stay) ∙ is)
    so_far)

pub key_goes_on : (named : List ℤ) (old mid : List Variant) (parameters : List Parameter) (front : List Scalar) (place : ℕ) (p : Parameter) (v : Scalar)
    → length named ≤ length old → length mid ≡ length old → Stay named old mid place → place < length parameters → get_or parameters place p ≡ p
    → with_front front (each_at (parameter_value (given_call named old)) place (drop place parameters)) ≡ each_at
    (parameter_value (given_call named old)) 0 parameters
    → parameter_value (given_call named mid) place p ≡ Ok v
    → with_front (front ++ v ∷ []) (each_at (parameter_value (given_call named old)) (place + 1) (drop (place + 1) parameters)) ≡ each_at
    (parameter_value (given_call named old)) 0 parameters
key_goes_on named old mid parameters front place p v few len stay within here so_far is =
    let next : drop place parameters ≡ p ∷ drop (place + 1) parameters = rw here at (drop_more parameters place p within) in
    each_goes_on (parameter_value (given_call named old)) front parameters place p v _ next (sym (value_stays named old mid place p few len stay) ∙ is) so_far

-- The new value has not moved.
pub new_value_stays : (named : List ℤ) (old new : List Variant) (n : ℕ) (declared : ValueType) (kind : Kind) → length named ≤ length old
    → length new ≡ length old → Stay named old new n
    → given_new_value (given_call named new) declared kind ≡ given_new_value (given_call named old) declared kind
new_value_stays named old new n declared Get few len stay = refl
new_value_stays named old new n declared Put few len stay =
    rw len (by (argument_index named (length old) new_value_id)
    (λ i is. stay i (λ q less other. no_place q (index_once named (length old) i (pos q) new_value_id few other is))))
  where
    no_place : (q : ℕ) → pos q ≡ new_value_id → ⊥
    no_place q e = absurd cc

    by : (o : Option ℕ) → ((i : ℕ) → o ≡ Some i → slice_get new i ≡ slice_get old i) → new_value_of declared o (given_argument o new) ≡ new_value_of declared o
        (given_argument o old)
    by None same = refl
    by (Some i) same = rw (same i refl) refl

module _ (parameters : List Parameter) (declared : ValueType) (kind : Kind) (call : Given) (key : List Scalar) where
  pub bound_ok : (u v : Unit {0}) (value : Option Variant) → Ok u ≡ well_named parameters kind call.named (length call.arguments)
      → Ok v ≡ complete parameters call → each_at (parameter_value call) 0 parameters ≡ Ok key
      → given_new_value call declared kind ≡ Ok value → bound_call parameters declared kind call ≡ Ok (record { key = key; value = value })
  unfolding bound_call
  bound_ok u v value fine full keyed is = rw (sym fine, sym full, keyed, is) refl

  pub bound_err : (u v : Unit {0}) (fault : BindFault) → Ok u ≡ well_named parameters kind call.named (length call.arguments) → Ok v ≡ complete parameters call
      → each_at (parameter_value call) 0 parameters ≡ Ok key
      → (fault ≡ lacks_memory) ⊎ (given_new_value call declared kind ≡ Err fault)
      → (fault ≡ lacks_memory) ⊎ (bound_call parameters declared kind call ≡ Err fault)
  unfolding bound_call
  bound_err u v fault fine full keyed (inl memory) = inl memory
  bound_err u v fault fine full keyed (inr is) = inr (rw (sym fine, sym full, keyed, is) refl)
