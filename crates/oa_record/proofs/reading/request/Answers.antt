use Rattle.std.proofs.Common.{Err, refl, subst, sym, arith}
use Rattle.std.proofs.lemmas.Result.{err_from_is_err_and}
use Rattle.oa_record.specs.Judging.{Requests}
use Rattle.oa_record.specs.promise.Layouts.{Layout}
use Rattle.oa_record.specs.Reading.{parts_of_element, redim_of}
use Rattle.oa_record.specs.Shown.{shown}
use Rattle.oa_record.specs.declared.body_parts.Parts.{Parts}
use Rattle.oa_record.proofs.Requests.{refuses_call}
use Rattle.oa_record.proofs.reading.request.Goals as goal

pub returns-in_err-called-in-Call : goal.returns-in_err-called-in-Call
returns-in_err-called-in-Call c =
    let p = err_from_is_err_and c.from_residual.result c.from_residual.ensures.1 in
    rw (p.1, p.2) (subst (λ (x : Parts). Requests (shown x) (Err c.in_err-called-in-Call.field-0.0)) (sym c.in-Call.is)
    (refuses_call (Layout.CallBody c.in-Call.kind c.in-Call.call) c.in-Call.call c.in_err-called-in-Call.field-0.0 refl (λ _. refl)
    (omega arith) c.in_err-called-in-Call.ensures.judged))

pub returns-in_err-call-in-GetElement : goal.returns-in_err-call-in-GetElement
returns-in_err-call-in-GetElement c =
    let p = err_from_is_err_and c.from_residual-in_err-call-in-GetElement.result c.from_residual-in_err-call-in-GetElement.ensures.1 in
    rw (p.1, p.2) (subst (λ (x : Parts). Requests (shown x) (Err c.in_err-call-in-GetElement.field-0.0)) (sym c.in-GetElement.is)
    (refuses_call (Layout.GetElementBody (parts_of_element c.in-GetElement.call c.in-GetElement.indices)) c.in-GetElement.call
    c.in_err-call-in-GetElement.field-0.0 refl (λ _. refl) (omega arith) c.in_err-call-in-GetElement.ensures.judged))

pub returns-in_err-call-in-Redimension : goal.returns-in_err-call-in-Redimension
returns-in_err-call-in-Redimension c =
    let p = err_from_is_err_and c.from_residual-in_err-call-in-Redimension.result c.from_residual-in_err-call-in-Redimension.ensures.1 in
    rw (p.1, p.2) (subst (λ (x : Parts). Requests (shown x) (Err c.in_err-call-in-Redimension.field-0.0)) (sym c.in-Redimension.is)
    (refuses_call (Layout.RedimensionBody (redim_of c.in-Redimension.call c.in-Redimension.bound)) c.in-Redimension.call c.in_err-call-in-Redimension.field-0.0
    refl (λ _. refl) (omega arith) c.in_err-call-in-Redimension.ensures.judged))
