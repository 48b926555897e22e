use Rattle.std.proofs.Common.{length, map, rules}
use Rattle.oa_idl.specs.promise.Words.{word_of}
use Rattle.oa_idl.proofs.ToldOfTexts.{parsed}
use Rattle.oa_idl.proofs.parser.parse_words.Goals as goal

pub returns : goal.returns
returns c = parsed (length c.args.text.now) c.place_of_rest-place.result c.args.words.now (map (word_of c.args.text.now) c.args.words.now) c.library-read.new.r
    c.library-read.result _ c.map_err.result
    (λ stop e h. search (rules, h)) (rw c.left.ensures at c.place_of_rest-place.ensures) (rw c.new-r.ensures at c.library-read.ensures) c.map_err.ensures.cases
