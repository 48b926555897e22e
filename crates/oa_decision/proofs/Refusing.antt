-- A call that binding refuses is refused, or memory was wanted where binding takes some.
use Rattle.std.proofs.Common.{◌≡◌, ◌⊎◌, inl, inr, ℕ, ◌==◌, ◌&&◌, Bool, true, false, true≢false, if◌then◌else◌, Option, Some, None, is_none, Result, Err, refl}
use Rattle.std.proofs.Common.{sym, ap, subst, ◌∙◌}
use Rattle.std.proofs.lemmas.Bool.{and_parts, eqb-true}
use Rattle.oa_bind.specs.promise.Calls.{BoundCallValue}
use Rattle.oa_bind.specs.Refusals.{lacks_memory}
use Rattle.oa_bind.specs.declared.fault.BindFault.{BindFault}
use Rattle.oa_model.specs.promise.Codes.{e_outofmemory}
use Rattle.oa_decision.specs.Cells.{FindsDue, undecided}
use Rattle.oa_decision.specs.promise.Cells.{as_refusal, call_found}
use Rattle.oa_decision.specs.declared.decision.DecideError.{DecideError}
use Rattle.oa_decision.specs.declared.decision.DecideError.TheVariants.{OutOfMemory, Refused}

abbrev lacks : BindFault → Bool
lacks fault = fault.code.0 == e_outofmemory.0 && is_none fault.index

abbrev made : ℕ → Option ℕ → BindFault
made code index = record { code = record { 0 = code }; index = index }

no_index : (index : Option ℕ) → is_none index ≡ true → index ≡ None
no_index None is = refl
no_index (Some i) is = absurd (true≢false (sym is))

is_lack : (fault : BindFault) → lacks fault ≡ true → fault ≡ lacks_memory
is_lack fault is =
    let both = and_parts (fault.code.0 == e_outofmemory.0) (is_none fault.index) is in
    let code : made fault.code.0 fault.index ≡ made e_outofmemory.0 fault.index =
    ap (λ (n : ℕ). made n fault.index) (eqb-true fault.code.0 e_outofmemory.0 both.0) in
    code ∙ ap (λ (i : Option ℕ). made e_outofmemory.0 i) (no_index fault.index both.1)

pub finds : (due : Result BoundCallValue BindFault) (takes : Type 0) (fault : BindFault) → (fault ≡ lacks_memory) ⊎ (due ≡ Err fault)
    → (fault ≡ lacks_memory → takes)
    → FindsDue {A = BoundCallValue} (call_found due) takes (Err (undecided fault))
finds due takes fault why may = by (lacks fault) refl
  where
    told : (fault ≡ lacks_memory) ⊎ (due ≡ Err fault) → lacks fault ≡ false → call_found due ≡ Err (as_refusal fault)
    told (inl is) other = absurd (true≢false (ap lacks (sym is) ∙ other))
    told (inr is) other = ap call_found is

    by : (b : Bool) → lacks fault ≡ b → FindsDue {A = BoundCallValue} (call_found due) takes (Err (if b then OutOfMemory else Refused (as_refusal fault)))
    by true is = may (is_lack fault is)
    by false is = told why is
