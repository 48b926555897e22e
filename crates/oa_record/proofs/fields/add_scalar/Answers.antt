use Rattle.std.proofs.Common.{◌≡◌, ◌∙◌, ℕ, Vec, Global, OnErr, OnOk, ap, subst}
use Rattle.oa_ndr.specs.Writing.{FieldOutput, field_after, in_field}
use Rattle.oa_wire_array.specs.promise.Canon.{put_scalar}
use Rattle.oa_record.proofs.Lengths.{field_added, field_kept}
use Rattle.oa_record.proofs.fields.add_scalar.Goals as goal

pub returns-clause-ok : goal.returns-clause-ok
returns-clause-ok c =
    let start : OnOk c.write_scalar-answer.result (c.write_scalar-answer.new.out ≡ in_field (put_scalar c.args.value.now) c.new-field.result) =
    c.write_scalar-answer.ensures.ok in
    let from : c.new-field.result ≡ field_after c.args.out.now.items = c.new-field.ensures
    ∙ ap (λ (v : Vec ℕ Global). field_after v.items) c.replace.ensures.value in
    field_added c.write_scalar-answer.result c.args.out.now.items c.into_vec.result.items c.write_scalar-answer.new.out
    (put_scalar c.args.value.now) c.into_vec.ensures
    (subst (λ (o : FieldOutput). OnOk c.write_scalar-answer.result (c.write_scalar-answer.new.out ≡ in_field (put_scalar c.args.value.now) o)) from start)

pub returns-clause-err : goal.returns-clause-err
returns-clause-err c =
    let start : OnErr c.write_scalar-answer.result (c.write_scalar-answer.new.out ≡ c.new-field.result) = c.write_scalar-answer.ensures.err in
    let from : c.new-field.result ≡ field_after c.args.out.now.items = c.new-field.ensures
    ∙ ap (λ (v : Vec ℕ Global). field_after v.items) c.replace.ensures.value in
    field_kept c.write_scalar-answer.result c.args.out.now.items c.into_vec.result.items c.write_scalar-answer.new.out c.into_vec.ensures
    (subst (λ (o : FieldOutput). OnErr c.write_scalar-answer.result (c.write_scalar-answer.new.out ≡ o)) from start)
