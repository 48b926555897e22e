-- What arguments make of a property fits it: the key its parameters, and a new value its type.
use Rattle.std.proofs.Common.{◌≡◌, ℕ, ◌+◌, ℤ, Bool, true, false, List, [], ◌∷◌, length, Option, Some, None, Result, Ok, Err, IfOk, IfSome}
use Rattle.std.proofs.Common.{refl, sym, subst}
use Rattle.std.specs.Prelude.{if◌then◌else◌}
use Rattle.std.specs.Option.{option_and_then, option_map, unwrap_or}
use Rattle.std.proofs.lemmas.Bool.{and_from}
use Rattle.oa_model.specs.declared.var_type.VarType.{VarType}
use Rattle.oa_model.specs.declared.var_type.VarType.TheVariants as types
use Rattle.oa_model.specs.declared.var_type.ValueType.{ValueType}
use Rattle.oa_model.specs.declared.var_type.ValueType.TheVariants as kinds
use Rattle.oa_idl.specs.declared.parts.Literal.{Literal}
use Rattle.oa_idl.specs.declared.parts.Literal.TheVariants as literals
use Rattle.oa_idl.specs.declared.parts.Parameter.{Parameter}
use Rattle.oa_variant.specs.promise.Scalars.{fits_type}
use Rattle.oa_variant.specs.promise.Variants.{fits_declared}
use Rattle.oa_variant.specs.declared.scalar.Scalar.{Scalar}
use Rattle.oa_variant.specs.declared.scalar.Scalar.TheVariants as scalars
use Rattle.oa_variant.specs.declared.variant.Variant.{Variant}
use Rattle.oa_variant.specs.declared.variant.Variant.TheVariants.{One, Array}
use Rattle.oa_coerce.specs.promise.Answers.{coerced, coerced_scalar}
use Rattle.oa_coerce.specs.declared.fault.CoerceFault.{CoerceFault}
use Rattle.oa_coerce.proofs.Computed.{answer_scalar, answer_value}
use Rattle.oa_coerce.proofs.Properties.{answer_fits, scalar_fits}
use Rattle.oa_typelib.specs.Bindable.{AreScalars, IsBindable, IsOne}
use Rattle.oa_sema.specs.promise.Defaults.{default_of, number_as, text_as, truth_as, wide}
use Rattle.oa_typelib.specs.promise.MemberValues.{MemberValue}
use Rattle.oa_typelib.specs.declared.access.Kind.{Kind}
use Rattle.oa_typelib.specs.declared.access.Kind.TheVariants.{Get, Put}
use Rattle.oa_bind.specs.declared.fault.BindFault.{BindFault}
use Rattle.oa_bind.specs.promise.Bindings.{bound_call, bound_to, given_new_value, new_value_of, parameter_value}
use Rattle.oa_bind.specs.promise.Bindings.{scalar_type, told_of_argument, value_by_argument, value_of_parameter}
use Rattle.oa_bind.specs.promise.Bindings.{without_default}
use Rattle.oa_bind.specs.promise.Calls.{BoundCallValue}
use Rattle.oa_bind.specs.promise.Given.{Given, argument_for, given_argument, argument_index, new_value_id}
use Rattle.oa_bind.specs.promise.Names.{complete, well_named}
use Rattle.oa_bind.specs.promise.Refusals.{◌>>=◌, each_at}
use Rattle.oa_compat.specs.promise.Fits.{key_fits}
use Rattle.oa_decision.proofs.Keys.{if_both}

-- ---- defaults
abbrev FitsIn : VarType → Scalar → Type 0
FitsIn t s = fits_type s t ≡ true

-- what every value of a kind is, is what was made of some
mapped : {X : Type 0} (t : VarType) (f : X → Scalar) (o : Option X) → ((x : X) → FitsIn t (f x)) → IfSome (option_map f o) (FitsIn t)
mapped t f None each = tt
mapped t f (Some x) each = each x

number_fits : (t : VarType) (z : ℤ) → IfSome (number_as t z) (FitsIn t)
unfolding number_as
number_fits types.Empty z = tt
number_fits types.Null z = tt
number_fits types.Bool z = tt
number_fits types.Bstr z = tt
number_fits t z = mapped t _ _ (λ x. refl)

short_text : (t : VarType) (b : Bool) (cs : List ℕ) → FitsIn t (scalars.Bstr (Some (wide cs)))
    → IfSome (if b then Some (scalars.Bstr (Some (wide cs))) else None) (FitsIn t)
short_text t true cs fit = fit
short_text t false cs fit = tt

text_fits : (t : VarType) (cs : List ℕ) → IfSome (text_as t cs) (FitsIn t)
text_fits types.Bstr cs = short_text types.Bstr _ cs refl
text_fits types.Variant cs = short_text types.Variant _ cs refl
text_fits t cs = tt

truth_fits : (t : VarType) (b : Bool) → IfSome (truth_as t b) (FitsIn t)
truth_fits types.Bool b = refl
truth_fits types.Variant b = refl
truth_fits t b = tt

literal_fits : (t : VarType) (l : Literal) → IfSome (default_of (kinds.One t) l) (FitsIn t)
literal_fits t (literals.Number z) = number_fits t z
literal_fits t (literals.Text cs) = text_fits t cs
literal_fits t (literals.Bool b) = truth_fits t b

own_fits : (t : VarType) (o : Option Literal) → IfSome (option_and_then (default_of (kinds.One t)) o) (FitsIn t)
own_fits t None = tt
own_fits t (Some l) = literal_fits t l

zero_fits : (t : VarType) → FitsIn t (without_default t)
zero_fits types.Variant = refl
zero_fits t = refl

either_fits : (t : VarType) (o : Option Scalar) → IfSome o (FitsIn t) → FitsIn t (unwrap_or o (without_default t))
either_fits t None h = zero_fits t
either_fits t (Some s) h = h

-- ---- one parameter, which is no array
abbrev FitsParameter : Parameter → Scalar → Type 0
FitsParameter p s = fits_declared (One s) p.value_type ≡ true

scalar_made : (t : VarType) (s : Scalar) → IfOk (coerced_scalar s t) (FitsIn t)
scalar_made t s = by (coerced_scalar s t) refl
  where
    by : (r : Result Scalar CoerceFault) → coerced_scalar s t ≡ r → IfOk r (FitsIn t)
    by (Ok made) is = scalar_fits s made t (answer_scalar s made t is)
    by (Err fault) is = tt

told_fits : {A : Type 0} (P : A → Type 0) (i : ℕ) (r : Result A CoerceFault) → IfOk r P → IfOk (told_of_argument i r) P
told_fits P i (Ok made) h = h
told_fits P i (Err fault) h = tt

argument_fits : (t : VarType) (i : ℕ) (argument : Variant) → IfOk (value_by_argument t i argument) (FitsIn t)
argument_fits t i (One s) = told_fits (FitsIn t) i (coerced_scalar s t) (scalar_made t s)
argument_fits t i (Array a) = tt

given_fits : (t : VarType) (l : Option Literal) (o : Option (ℕ × Variant)) (p : Parameter) → p.value_type ≡ kinds.One t
    → IfOk (value_of_parameter p o) (λ s. fits_declared (One s) (kinds.One t) ≡ true)
given_fits t l None p is =
    subst (λ (v : ValueType). fits_declared (One (unwrap_or (option_and_then (default_of v) p.default) (without_default (scalar_type v)))) (kinds.One t) ≡ true)
    (sym is) (either_fits t (option_and_then (default_of (kinds.One t)) p.default) (own_fits t p.default))
given_fits t l (Some (i, argument)) p is =
    subst (λ (v : ValueType). IfOk (value_by_argument (scalar_type v) i argument) (λ s. fits_declared (One s) (kinds.One t) ≡ true)) (sym is)
    (argument_fits t i argument)

parameter_fits : (p : Parameter) (o : Option (ℕ × Variant)) → IsOne p.value_type → IfOk (value_of_parameter p o) (FitsParameter p)
parameter_fits p o one = by p.value_type refl one
  where
    by : (v : ValueType) → p.value_type ≡ v → IsOne v → IfOk (value_of_parameter p o) (λ s. fits_declared (One s) v ≡ true)
    by (kinds.One t) is h = given_fits t p.default o p is
    by (kinds.Array t) is h = absurd h

-- ---- all of them
key_made : (call : Given) (place : ℕ) (ps : List Parameter) → AreScalars ps → IfOk (each_at (parameter_value call) place ps) (λ key. key_fits ps key ≡ true)
unfolding each_at
key_made call place [] ones = refl
key_made call place (p ∷ ps) ones =
    if_both _ (parameter_value call place p) _ (λ s here. if_both _ (each_at (parameter_value call) (place + 1) ps) _ (λ ss rest.
    let first : fits_declared (One s) p.value_type ≡ true = rw here at (parameter_fits p (argument_for call place) ones.0) in
    let others : key_fits ps ss ≡ true = rw rest at (key_made call (place + 1) ps ones.1) in
    and_from (fits_declared (One s) p.value_type) (key_fits ps ss) first others))

-- ---- the new value of a put
abbrev FitsValue : ValueType → Option Variant → Type 0
FitsValue declared value = IfSome value (λ v. fits_declared v declared ≡ true)

value_made : (declared : ValueType) (argument : Variant) → IfOk (coerced argument declared) (λ v. fits_declared v declared ≡ true)
value_made declared argument = by (coerced argument declared) refl
  where
    by : (r : Result Variant CoerceFault) → coerced argument declared ≡ r → IfOk r (λ v. fits_declared v declared ≡ true)
    by (Ok made) is = answer_fits argument made declared (answer_value argument made declared is)
    by (Err fault) is = tt

new_made : (declared : ValueType) (index : Option ℕ) (argument : Option Variant) → IfOk (new_value_of declared index argument) (FitsValue declared)
new_made declared None argument = tt
new_made declared (Some i) None = tt
new_made declared (Some i) (Some argument) = by (told_of_argument i (coerced argument declared))
    (told_fits _ i (coerced argument declared) (value_made declared argument))
  where
    by : (r : Result Variant BindFault) → IfOk r (λ v. fits_declared v declared ≡ true) → IfOk (r >>= λ value. Ok (Some value)) (FitsValue declared)
    by (Ok v) h = h
    by (Err fault) h = tt

new_fits : (call : Given) (declared : ValueType) (kind : Kind) → IfOk (given_new_value call declared kind) (FitsValue declared)
new_fits call declared Get = tt
new_fits call declared Put = let i = argument_index call.named (length call.arguments) new_value_id in new_made declared i (given_argument i call.arguments)

-- ---- the call
pub record FitsMember (member : MemberValue) (call : BoundCallValue) : Type 0 where
  pub key : key_fits member.parameters call.key ≡ true
  pub value : FitsValue member.value_type call.value

pub bound_fits : (member : MemberValue) (kind : Kind) (call : Given) → IsBindable member → IfOk (bound_to member kind call) (FitsMember member)
unfolding bound_call
bound_fits member kind call is =
    if_both (FitsMember member) (well_named member.parameters kind call.named (length call.arguments)) _ (λ named a.
    if_both (FitsMember member) (complete member.parameters call) _ (λ full b.
    if_both (FitsMember member) (each_at (parameter_value call) 0 member.parameters) _ (λ key keyed.
    if_both (FitsMember member) (given_new_value call member.value_type kind) _ (λ value valued.
    record {
      key = rw keyed at (key_made call 0 member.parameters is.scalars);
      value = rw valued at (new_fits call member.value_type kind);
    }))))
