use Rattle.std.proofs.Common.{List, ℕ, Err, subst}
use Rattle.std.proofs.lemmas.Result.{err_from_is_err_and}
use Rattle.oa_idl.specs.IsTree.{AnswersText, AnswersTree}
use Rattle.oa_idl.specs.promise.IsTree.{IsTree}
use Rattle.oa_idl.specs.promise.Trees.{TreeValue}
use Rattle.oa_compat.proofs.TextReads.{made_read, parse_read}
use Rattle.oa_compat.proofs.library_text.read_library.Goals as goal

pub returns : goal.returns
returns c =
    made_read c.args.bytes.now c.in_ok-parse.field-0 c.made.result c.in-Ok.ensures.cases.1
    (subst (λ (bs : List ℕ). IsTree bs c.in_ok-parse.field-0) c.in-Ok.ensures.cases.0 c.in_ok-parse.ensures.exact) c.one_tree.ensures c.made.ensures

pub returns-in_err-parse : goal.returns-in_err-parse
returns-in_err-parse c =
    let p = err_from_is_err_and c.from_residual.result c.from_residual.ensures.1 in
    rw (p.1, p.2)
    (parse_read c.args.bytes.now c.in_err-parse.field-0.0 c.in-Ok.ensures.cases.1
    (subst (λ (bs : List ℕ). AnswersText bs (Err c.in_err-parse.field-0.0)) c.in-Ok.ensures.cases.0 c.in_err-parse.ensures.exact)
    (subst (λ (bs : List ℕ). (t : TreeValue) → IsTree bs t → AnswersTree t (Err c.in_err-parse.field-0.0)) c.in-Ok.ensures.cases.0
    c.in_err-parse.ensures.found))
