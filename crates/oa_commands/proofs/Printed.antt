-- A library's canonical text, written whole or as far as the writer took it.
use Rattle.std.proofs.Common.{◌≡◌, ◌⊎◌, inr, ℕ, List, [], Result, Ok, Err, OnOk, IfErr, subst}
use Rattle.std.proofs.lemmas.List.{append-nil}
use Rattle.oa_printer.specs.promise.Canonical.{canonical}
use Rattle.oa_sema.specs.promise.IsLibrary.{IsLibrary}
use Rattle.oa_commands.specs.Texts.{IsPrinted}
use Rattle.oa_commands.specs.declared.fault.Fault.{Fault}
use Rattle.oa_commands.specs.declared.fault.Fault.TheVariants as faults
use Rattle.oa_idl.specs.promise.Trees.{TreeValue}
use Rattle.oa_stream.specs.promise.Sink.{Breaks, Output, Writes}
use Rattle.oa_stream.proofs.Stretches.{breaks_after}

-- what was put is not handed on
pub kept_back : (a b c : Output) (xs : List ℕ) → Writes a b xs → Breaks b c [] → Breaks a c xs
kept_back a b c xs p q = rw (← append-nil xs) (breaks_after a b c xs [] p q)

module _ (text : List ℕ) (library : TreeValue) (bytes : List ℕ) (stands : IsLibrary text library) (is : bytes ≡ canonical library) (a b : Output) where
  pub whole : {T : Type 0} (result : Result T Fault) → OnOk result (Writes a b bytes) → OnOk result (IsPrinted (Writes a b))
  whole (Ok x) p = (text, library, stands, subst (Writes a b) is p)
  whole (Err e) p = tt

  pub in_part : {T : Type 0} (result : Result T Fault) → IfErr result (λ fault. (fault ≡ faults.Write) × Breaks a b bytes)
      → IfErr result (λ fault. (b ≡ a) ⊎ ((fault ≡ faults.Write) × IsPrinted (Breaks a b)))
  in_part (Ok x) p = tt
  in_part (Err e) p = inr (p.0, (text, library, stands, subst (Breaks a b) is p.1))
