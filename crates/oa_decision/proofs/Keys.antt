-- A bound call has a value for each parameter, so few.
use Rattle.std.proofs.Common.{◌≡◌, ◌≤◌, ◌+◌, ℕ, suc, List, [], ◌∷◌, length, Result, Ok, Err, IfOk, refl, ap, arith}
use Rattle.oa_model.specs.Limits.{max_key_scalars}
use Rattle.oa_bind.specs.declared.fault.BindFault.{BindFault}
use Rattle.oa_bind.specs.promise.Bindings.{bound_call, bound_to, given_new_value, parameter_value}
use Rattle.oa_bind.specs.promise.Calls.{BoundCallValue}
use Rattle.oa_bind.specs.promise.Given.{Given}
use Rattle.oa_bind.specs.promise.Names.{complete, well_named}
use Rattle.oa_bind.specs.promise.Refusals.{◌>>=◌, each_at}
use Rattle.oa_typelib.specs.Bindable.{IsBindable}
use Rattle.oa_typelib.specs.promise.MemberValues.{MemberValue}
use Rattle.oa_typelib.specs.declared.access.Kind.{Kind}

-- what holds of the second answer, whatever the first one is
pub if_both : {A B : Type 0} (P : B → Type 0) (first : Result A BindFault) (next : A → Result B BindFault) → ((x : A) → first ≡ Ok x → IfOk (next x) P)
    → IfOk (first >>= next) P
if_both P (Ok x) next h = h x refl
if_both P (Err fault) next h = tt

-- each member has one answer
one_each : {X Y : Type 0} (answer : ℕ → X → Result Y BindFault) (place : ℕ) (xs : List X) → IfOk (each_at answer place xs) (λ ys. length ys ≡ length xs)
unfolding each_at
one_each answer place [] = refl
one_each answer place (x ∷ xs) =
    if_both _ (answer place x) _ (λ y here. if_both _ (each_at answer (place + 1) xs) _
    (λ ys rest. ap (λ n. suc n) (rw rest at (one_each answer (place + 1) xs))))

abbrev HasFew : BoundCallValue → Type 0
HasFew call = length call.key ≤ max_key_scalars

few_in_all : (member : MemberValue) (kind : Kind) (call : Given) → IsBindable member → IfOk (bound_to member kind call) HasFew
unfolding bound_call
few_in_all member kind call is =
    if_both HasFew (well_named member.parameters kind call.named (length call.arguments)) _ (λ named a.
    if_both HasFew (complete member.parameters call) _ (λ full b.
    if_both HasFew (each_at (parameter_value call) 0 member.parameters) _ (λ key keyed.
    if_both HasFew (given_new_value call member.value_type kind) _ (λ value d.
    let count : length key ≡ length member.parameters = rw keyed at (one_each (parameter_value call) 0 member.parameters) in
    let few : length key ≤ max_key_scalars = omega (arith, count, is.few) in
    few))))

pub few_bound : (member : MemberValue) (kind : Kind) (call : Given) (made : BoundCallValue) → IsBindable member
    → bound_to member kind call ≡ Ok made → length made.key ≤ max_key_scalars
few_bound member kind call made is h = rw h at (few_in_all member kind call is)
