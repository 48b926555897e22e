use Rattle.std.proofs.Common.{◌++◌, ◌∷◌, [], Some, if◌then◌else◌, map, take, sym, ap, ◌∙◌}
use Rattle.std.specs.Option.{option_map}
use Rattle.oa_idl.specs.declared.parts.Parameter.{Parameter}
use Rattle.oa_sema.specs.promise.Breaches.{declared_breach, repeated_name}
use Rattle.oa_sema.specs.promise.Repeats.{first_after}
use Rattle.oa_sema.specs.Taken.{takes_reading, takes_setting, names_taken, is_taken}
use Rattle.oa_sema.specs.declared.fault.CheckError.TheVariants.{DuplicateName}
use Rattle.oa_sema.proofs.Passes.{refuses_more, no_refusal, refused}
use Rattle.oa_sema.proofs.TakenNames.{taken_more, declared_by_names}
use Rattle.oa_sema.proofs.Walks.{after_found, after_on, after_done}
use Rattle.oa_sema.proofs.checks.check_declared.Goals as goal

pub returns-in_err-admit_declaration : goal.returns-in_err-admit_declaration
returns-in_err-admit_declaration c =
    let d = c.declaration-item.result in
    let inv = c.loop-declaration.invariant in
    let same_breach = declared_by_names (take c.loop-declaration.declaration-index c.args.all.now) d c.loop-declaration.taken.reading
    c.loop-declaration.taken.setting inv.reading inv.setting in
    refused (option_map DuplicateName (first_after declared_breach [] c.args.all.now)) (λ _. Unit {0}) c.in_err-admit_declaration.field-0.0
    c.from_residual.result
    c.from_residual.ensures.0 c.from_residual.ensures.1
    (refuses_more DuplicateName (if is_taken c.loop-declaration.taken.reading c.loop-declaration.taken.setting d then Some d.name else repeated_name
    (map (λ (p : Parameter). p.name) d.parameters)) (first_after declared_breach [] c.args.all.now) c.in_err-admit_declaration.field-0.0
    (λ n some. after_found declared_breach c.args.all.now c.loop-declaration.declaration-index d n c.loop-declaration-test.true c.declaration-item.is inv.left
    (sym same_breach ∙ some))
    c.in_err-admit_declaration.ensures.refuses)

pub loop-declaration-preserved : goal.loop-declaration-preserved
loop-declaration-preserved c =
    let d = c.declaration-item.result in
    let inv = c.loop-declaration.invariant in
    let e = c.in_ok-admit_declaration.ensures.refuses in
    let i = c.loop-declaration.declaration-index in
    let same_breach = declared_by_names (take i c.args.all.now) d c.loop-declaration.taken.reading c.loop-declaration.taken.setting inv.reading inv.setting in
    record {
      reading = e.1.0 ∙ ap (λ ns. ns ++ names_taken takes_reading (d ∷ [])) inv.reading
          ∙ sym (taken_more takes_reading c.args.all.now i d c.loop-declaration-test.true c.declaration-item.is);
      setting = e.1.1 ∙ ap (λ ns. ns ++ names_taken takes_setting (d ∷ [])) inv.setting
          ∙ sym (taken_more takes_setting c.args.all.now i d c.loop-declaration-test.true c.declaration-item.is);
      left = after_on declared_breach c.args.all.now i d c.loop-declaration-test.true c.declaration-item.is inv.left
          (sym same_breach ∙ no_refusal DuplicateName _ e.0);
    }

pub returns : goal.returns
returns c = (
  ap (option_map DuplicateName) (after_done declared_breach c.args.all.now c.loop-declaration.declaration-index c.loop-declaration-test.false
      c.loop-declaration.invariant.left),
  tt,
)
