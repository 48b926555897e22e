use Rattle.std.proofs.Common.{◌≡◌, Bool, true, false, cond, List, ℕ, Result, Ok, Err, sym, rules}
use Rattle.std.specs.Result.{IsErrAnd, MatchResult}
use Rattle.oa_ndr.specs.Reading.{whole}
use Rattle.oa_ndr.proofs.Laws.{whole_takes, whole_again}
use Rattle.oa_variant.specs.declared.variant.Variant.{Variant}
use Rattle.oa_wire_text.specs.declared.fault.StubFault.{StubFault}
use Rattle.oa_wire_text.specs.declared.fault.StubFault.TheVariants as faults
use Rattle.oa_wire_array.specs.declared.fault.WireFault.{WireFault}
use Rattle.oa_wire_array.specs.declared.fault.WireFault.TheVariants.{BadStub, BadVarType, Memory}
use Rattle.oa_wire_text.specs.Reading.{OnMemory}
use Rattle.oa_wire_variant.specs.Reading.{ReadsWholeField, variant_at}
use Rattle.oa_wire_variant.specs.promise.Variants.{Spells, field_fault}
use Rattle.oa_wire_variant.specs.Variants.{ReadsVariant, TakesMemory}
use Rattle.oa_wire_variant.proofs.VariantLaws.{variant_reads}
use Rattle.oa_wire_variant.proofs.variant.read_other.Goals as goal

-- The own error of a field is not `Memory`.
no_memory : (b : Bool) → Memory ≡ cond b BadVarType BadStub → ⊥
no_memory true e = absurd cc
no_memory false e = absurd cc

fault_is : (bytes : List ℕ) (e : WireFault) → e ≡ field_fault bytes → ((v : Variant) → Spells bytes v → ⊥) → ReadsVariant bytes (Err e)
fault_is bytes BadStub is never = (never, sym is)
fault_is bytes BadVarType is never = (never, sym is)
fault_is bytes Memory is never = absurd (no_memory _ is)

-- The result made of that of `whole`: the value, or the conversion of each error.
told : (P : StubFault → WireFault → Type 0) (bytes : List ℕ) (from : Result Variant StubFault) (to : Result Variant WireFault)
    → ReadsWholeField from (whole variant_at bytes) → OnMemory from (TakesMemory bytes) → MatchResult from (λ v. to ≡ Ok v) (λ e. IsErrAnd to (P e))
    → ((e : WireFault) → P faults.BadStub e → e ≡ field_fault bytes) → ((e : WireFault) → P faults.Memory e → e ≡ Memory) → ReadsVariant bytes to
told P bytes (Ok v) to read takes is stub memory = rw is (whole_takes variant_reads bytes v read).1
told P bytes (Err e) (Ok v) read takes is stub memory = absurd is
told P bytes (Err faults.BadStub) (Err e) read takes is stub memory =
    fault_is bytes e (stub e is) (λ v h. let again = whole_again variant_reads bytes v tt h in cc)
told P bytes (Err faults.Memory) (Err e) read takes is stub memory = rw (memory e is) takes

pub returns : goal.returns
returns c = record {
  exact = told _ c.args.bytes.now c.whole.result c.map_err.result c.whole.ensures.value c.whole.ensures.memory c.map_err.ensures.cases (λ e h. search rules)
      (λ e h. search rules);
}
