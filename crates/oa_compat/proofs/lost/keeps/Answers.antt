use Rattle.std.proofs.Common.{refl, sym, ◌∙◌}
use Rattle.oa_typelib.specs.promise.Descriptions.{classes_of, interfaces_of}
use Rattle.oa_compat.specs.promise.Keeps.{first_lost, lost_class, lost_interface}
use Rattle.oa_sema.specs.promise.Repeats.{first_answer}
use Rattle.oa_compat.proofs.Losses.{all_kept, keeps_all}
use Rattle.oa_compat.proofs.Searches.{answered_here, answered_later}
use Rattle.oa_compat.proofs.lost.keeps.Goals as goal

pub returns-then-is_some-clause-exactly : goal.returns-then-is_some-clause-exactly
returns-then-is_some-clause-exactly c =
    let is = answered_here (first_lost c.args.new.now c.args.old.now) (first_answer (lost_interface c.args.new.now) (interfaces_of c.args.old.now.items))
    (first_answer (lost_class c.args.new.now c.args.old.now) (classes_of c.args.old.now.items)) c.first_interface-lost.result refl
    c.first_interface-lost.ensures (sym c.is_some.ensures ∙ c.if-is_some.true) in
    (λ none. keeps_all c.args.new.now c.args.old.now (sym is ∙ none), λ keeps. is ∙ all_kept c.args.new.now c.args.old.now c.is_checked.ensures keeps)

pub returns-clause-exactly : goal.returns-clause-exactly
returns-clause-exactly c =
    let is = answered_later (first_lost c.args.new.now c.args.old.now) (first_answer (lost_interface c.args.new.now) (interfaces_of c.args.old.now.items))
    (first_answer (lost_class c.args.new.now c.args.old.now) (classes_of c.args.old.now.items)) c.first_interface-lost.result c.first_class.result refl
    c.first_interface-lost.ensures
    (sym c.is_some.ensures ∙ c.if-is_some.false) c.first_class.ensures in
    (λ none. keeps_all c.args.new.now c.args.old.now (sym is ∙ none), λ keeps. is ∙ all_kept c.args.new.now c.args.old.now c.is_checked.ensures keeps)
