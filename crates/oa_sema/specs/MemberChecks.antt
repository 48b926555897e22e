-- The checks of an interface's declarations.
use Rattle.std.specs.Prelude.{ℕ, Bool, false, not, ◌&&◌, List, slice_get, Option, Some, None}
use Rattle.std.specs.Ordering.{int_eq}
use Rattle.oa_sema.specs.promise.Agreement.{agree}
use Rattle.oa_sema.specs.promise.Breaches.{first_broken, shares_id, disagrees, first_array_parameter, bad_default_in}
use Rattle.oa_sema.specs.promise.DeclarationValues.{DeclarationValue}
use Rattle.oa_sema.specs.promise.Libraries.{same_name}
use Rattle.oa_sema.specs.promise.Repeats.{first_answer}
use Rattle.oa_sema.specs.declared.member_checks.MemberCheck.{MemberCheck}
use Rattle.oa_sema.specs.declared.member_checks.MemberCheck.TheVariants as checks
use Rattle.oa_sema.specs.declared.member_checks.Rule.{Rule}
use Rattle.oa_sema.specs.declared.member_checks.Rule.TheVariants as rules

-- The rule applies to these two declarations.
abbrev pub alike : Rule → DeclarationValue → DeclarationValue → Bool
alike rules.OneMember d e = int_eq d.id e.id
alike rules.Agreement d e = same_name d.name e.name

-- The two declarations satisfy the rule.
abbrev pub suits : Rule → DeclarationValue → DeclarationValue → Bool
suits rules.OneMember d e = same_name d.name e.name
suits rules.Agreement d e = agree d e

-- The rule applies to the two declarations, and they violate it.
abbrev pub breaks : Rule → DeclarationValue → DeclarationValue → Bool
breaks rule d e = alike rule d e && not (suits rule d e)

-- The declaration violates a rule together with another one, or with the one at a place of a list.
abbrev pub broken_with : Rule → DeclarationValue → Option DeclarationValue → Bool
broken_with rule d None = false
broken_with rule d (Some e) = breaks rule d e

abbrev pub broken_at : Rule → List DeclarationValue → DeclarationValue → Option ℕ → Bool
broken_at rule all d None = false
broken_at rule all d (Some n) = broken_with rule d (slice_get all n)

-- The name that a check of an interface's declarations finds first.
abbrev pub breach_by : MemberCheck → List DeclarationValue → Option (List ℕ)
breach_by checks.Ids = first_broken shares_id
breach_by checks.Forms = first_broken disagrees
breach_by checks.Arrays = first_answer first_array_parameter
breach_by checks.Defaults = first_answer bad_default_in
