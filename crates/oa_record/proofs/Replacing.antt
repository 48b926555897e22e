-- A body that asks for another library asks no request.
use Rattle.std.proofs.Common.{◌≡◌, inl, ℕ, Bool, true, false, ◌==◌, if◌then◌else◌, List, length, nat_lt, sym, ◌∙◌, true≢false, ap}
use Rattle.std.proofs.lemmas.Bool.{eqb-true}
use Rattle.oa_record.specs.promise.Asks.{IsStub}
use Rattle.oa_record.specs.promise.Layouts.{Layout, opcode_of}
use Rattle.oa_record.specs.promise.Opcodes.{opcode_number, opcode_at, opcode_named}
use Rattle.oa_record.specs.promise.Replacement.{is_replacement}
use Rattle.oa_record.specs.declared.opcode.Opcode.TheVariants as opcodes
use Rattle.oa_record.proofs.Header.{opcode_lies}
use Rattle.oa_record.proofs.LayoutLaws.{no_layout}
use Rattle.oa_record.proofs.OpcodeLaws.{named_back, same_opcode}

-- it is the opcode of no layout
no_opcode : (parts : Layout) → opcode_number (opcode_of parts) ≡ opcode_number opcodes.Replace → ⊥
no_opcode parts e = no_layout parts (same_opcode (opcode_of parts) opcodes.Replace (sym (named_back (opcode_of parts)) ∙ ap opcode_named e))

replaces : (body : List ℕ) → is_replacement body ≡ true → opcode_at body ≡ opcode_number opcodes.Replace
replaces body e = by (nat_lt (length body) 8) e
  where
    by : (b : Bool) → (if b then false else (opcode_at body == opcode_number opcodes.Replace)) ≡ true → opcode_at body ≡ opcode_number opcodes.Replace
    by true k = absurd (true≢false (sym k))
    by false k = eqb-true (opcode_at body) (opcode_number opcodes.Replace) k

pub is_stub : (body : List ℕ) → is_replacement body ≡ true → IsStub body
is_stub body e = inl (λ parts lies. no_opcode parts (sym (opcode_lies parts body lies.form).1 ∙ replaces body e))
