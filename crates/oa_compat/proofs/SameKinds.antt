-- Equal kinds of declarations.
use Rattle.std.proofs.Common.{◌≡◌, true, refl, sym, true≢false}
use Rattle.oa_sema.specs.declared.declaration.DeclarationKind.{DeclarationKind}
use Rattle.oa_sema.specs.declared.declaration.DeclarationKind.TheVariants as kinds
use Rattle.oa_compat.specs.promise.Keeps.{same_declaration_kind}

pub kind_itself : (k : DeclarationKind) → same_declaration_kind k k ≡ true
kind_itself kinds.Property = refl
kind_itself kinds.ReadonlyProperty = refl
kind_itself kinds.Method = refl
kind_itself kinds.Get = refl
kind_itself kinds.Put = refl

pub kinds_are : (j k : DeclarationKind) → same_declaration_kind j k ≡ true → k ≡ j
kinds_are kinds.Property kinds.Property e = refl
kinds_are kinds.Property kinds.ReadonlyProperty e = absurd (true≢false (sym e))
kinds_are kinds.Property kinds.Method e = absurd (true≢false (sym e))
kinds_are kinds.Property kinds.Get e = absurd (true≢false (sym e))
kinds_are kinds.Property kinds.Put e = absurd (true≢false (sym e))
kinds_are kinds.ReadonlyProperty kinds.Property e = absurd (true≢false (sym e))
kinds_are kinds.ReadonlyProperty kinds.ReadonlyProperty e = refl
kinds_are kinds.ReadonlyProperty kinds.Method e = absurd (true≢false (sym e))
kinds_are kinds.ReadonlyProperty kinds.Get e = absurd (true≢false (sym e))
kinds_are kinds.ReadonlyProperty kinds.Put e = absurd (true≢false (sym e))
kinds_are kinds.Method kinds.Property e = absurd (true≢false (sym e))
kinds_are kinds.Method kinds.ReadonlyProperty e = absurd (true≢false (sym e))
kinds_are kinds.Method kinds.Method e = refl
kinds_are kinds.Method kinds.Get e = absurd (true≢false (sym e))
kinds_are kinds.Method kinds.Put e = absurd (true≢false (sym e))
kinds_are kinds.Get kinds.Property e = absurd (true≢false (sym e))
kinds_are kinds.Get kinds.ReadonlyProperty e = absurd (true≢false (sym e))
kinds_are kinds.Get kinds.Method e = absurd (true≢false (sym e))
kinds_are kinds.Get kinds.Get e = refl
kinds_are kinds.Get kinds.Put e = absurd (true≢false (sym e))
kinds_are kinds.Put kinds.Property e = absurd (true≢false (sym e))
kinds_are kinds.Put kinds.ReadonlyProperty e = absurd (true≢false (sym e))
kinds_are kinds.Put kinds.Method e = absurd (true≢false (sym e))
kinds_are kinds.Put kinds.Get e = absurd (true≢false (sym e))
kinds_are kinds.Put kinds.Put e = refl
