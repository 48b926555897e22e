use Rattle.std.proofs.Common.{◌≡◌, ap, sym, refl, ◌∙◌, subst, subst₂, SFits, rules}
use Rattle.std.specs.Int.{w128}
use Rattle.std.proofs.lemmas.Int.{to_z-of_z}
use Rattle.oa_variant.specs.promise.Keys.{key_number}
use Rattle.oa_variant.specs.promise.Scalars.{type_of}
use Rattle.oa_variant.specs.Scalars.{IsScalar}
use Rattle.oa_variant.specs.declared.scalar.Scalar.{Scalar}
use Rattle.oa_coerce.specs.Numbers.{IsNearest}
use Rattle.oa_coerce.specs.promise.Coercions.{rule_for}
use Rattle.oa_coerce.specs.declared.rule.Rule.TheVariants.{Nearest}
use Rattle.oa_coerce.proofs.Lifted.{none_in_range}
use Rattle.oa_coerce.proofs.values.scalar_by_rule.Goals as goal

pub returns-in-None-clause-refused : goal.returns-in-None-clause-refused
returns-in-None-clause-refused c =
    let rule : rule_for (type_of c.args.value) c.args.to ≡ Nearest = ap (λ t. rule_for t c.args.to) (sym c.var_type.ensures)
    ∙ (sym c.rule_for.ensures ∙ c.in-Nearest.is) in
    let near = subst₂ (λ x p. IsNearest x p c.nearest.result) c.number_in.ensures.value c.places.ensures.value c.nearest.ensures in
    let fits : SFits w128 c.nearest.result = search rules in
    let none = subst (λ z. (made : Scalar) → IsScalar made → type_of made ≡ c.args.to → key_number made ≡ z → ⊥) (to_z-of_z w128 c.nearest.result fits)
    (c.in-None.ensures.none refl) in
    (refl, (rule, none_in_range c.args.value c.args.to c.nearest.result (rule_for (type_of c.args.value) c.args.to) rule near none))
