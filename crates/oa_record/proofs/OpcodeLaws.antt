-- Each opcode has one number, and each number at most one opcode.
use Rattle.std.proofs.Common.{◌≡◌, ℕ, Bool, true, false, eqb, cond, Option, Some, refl, sym, ap, ◌∙◌}
use Rattle.std.proofs.lemmas.Bool.{eqb-true}
use Rattle.oa_record.specs.promise.Opcodes.{opcode_number, opcode_named}
use Rattle.oa_record.specs.declared.opcode.Opcode.{Opcode}
use Rattle.oa_record.specs.declared.opcode.Opcode.TheVariants as opcodes
use Rattle.oa_record.specs.declared.opcode.ByCall.TheVariants as by_call
use Rattle.oa_record.specs.declared.opcode.ByNumber.TheVariants as by_number
use Rattle.oa_record.specs.declared.opcode.Query.TheVariants as queries

pub named_back : (k : Opcode) → opcode_named (opcode_number k) ≡ Some k
named_back opcodes.Create = refl
named_back (opcodes.ByNumber by_number.Release) = refl
named_back opcodes.GetIds = refl
named_back (opcodes.ByCall by_call.Invoke) = refl
named_back opcodes.GetElement = refl
named_back opcodes.PutElement = refl
named_back opcodes.Redimension = refl
named_back (opcodes.ByCall by_call.Lock) = refl
named_back (opcodes.ByCall by_call.Unlock) = refl
named_back (opcodes.ByNumber by_number.TypeInfo) = refl
named_back (opcodes.Query queries.Objects) = refl
named_back opcodes.Replace = refl

abbrev some_opcode : Opcode → Option Opcode
some_opcode k = Some k

pub same_opcode : (k j : Opcode) → some_opcode k ≡ Some j → k ≡ j
same_opcode k j e = cc

tried : (n m : ℕ) (j : Opcode) (other : Option Opcode) (k : Opcode) → opcode_number j ≡ m → cond (eqb n m) (Some j) other ≡ Some k
    → (other ≡ Some k → opcode_number k ≡ n) → opcode_number k ≡ n
tried n m j other k is e next = by_test (eqb n m) refl e
  where
    by_test : (b : Bool) → eqb n m ≡ b → cond b (Some j) other ≡ Some k → opcode_number k ≡ n
    by_test true h e = ap opcode_number (sym (same_opcode j k e)) ∙ is ∙ sym (eqb-true _ _ h)
    by_test false h e = next e

pub number_from : (n : ℕ) (k : Opcode) → opcode_named n ≡ Some k → opcode_number k ≡ n
number_from n k e =
    tried n 1 opcodes.Create _ k refl e (λ e.
    tried n 2 (opcodes.ByNumber by_number.Release) _ k refl e (λ e.
    tried n 3 opcodes.GetIds _ k refl e (λ e.
    tried n 4 (opcodes.ByCall by_call.Invoke) _ k refl e (λ e.
    tried n 5 opcodes.GetElement _ k refl e (λ e.
    tried n 6 opcodes.PutElement _ k refl e (λ e.
    tried n 7 opcodes.Redimension _ k refl e (λ e.
    tried n 8 (opcodes.ByCall by_call.Lock) _ k refl e (λ e.
    tried n 9 (opcodes.ByCall by_call.Unlock) _ k refl e (λ e.
    tried n 10 (opcodes.ByNumber by_number.TypeInfo) _ k refl e (λ e.
    tried n 11 (opcodes.Query queries.Objects) _ k refl e (λ e.
    tried n 12 opcodes.Replace _ k refl e (λ e.
    absurd cc))))))))))))
