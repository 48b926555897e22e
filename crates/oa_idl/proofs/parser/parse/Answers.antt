use Rattle.std.proofs.Common.{◌∙◌, rules}
use Rattle.oa_idl.proofs.Answered.{answered, found}
use Rattle.oa_idl.proofs.parser.parse.Goals as goal

pub returns : goal.returns
returns c =
    let answer = answered c.args.text.now c.as_bytes.result.now c.in_ok-words.words.items c.as_slice.result.now c.parse_words.result c.as_bytes.ensures.value
    (c.as_slice.ensures.value ∙ c.in_ok-push.ensures.items) c.in_ok-words.ensures (search rules) c.parse_words.ensures in
    record { exact = answer; found = found c.args.text.now c.parse_words.result answer }
