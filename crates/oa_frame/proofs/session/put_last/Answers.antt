use Rattle.std.proofs.Common.{◌≡◌, ◌∷◌, [], Bool, true, false, if◌then◌else◌, ap, rules}
use Rattle.std.proofs.lemmas.List.{append-nil}
use Rattle.oa_frame.specs.promise.Framings.{frames}
use Rattle.oa_frame.specs.promise.Sessions.{is_answered, last_reply}
use Rattle.oa_frame.proofs.Spelled.{puts_none, puts_one}
use Rattle.oa_frame.proofs.session.put_last.Goals as goal

pub returns-then-has_reply : goal.returns-then-has_reply
returns-then-has_reply g c =
    let answered : is_answered c.args.why ≡ true = search rules in
    let one : last_reply c.args.last.now c.args.why ≡ c.args.last.now ∷ [] = ap (λ (b : Bool). if b then c.args.last.now ∷ [] else []) answered in
    puts_one (frames c.args.framing).spelled _ _ _ (last_reply c.args.last.now c.args.why) c.args.last.now one
    (rw (append-nil c.args.last.now) at c.put_reply.ensures)

pub returns : goal.returns
returns g c =
    let answered : is_answered c.args.why ≡ false = search rules in
    let none : last_reply c.args.last.now c.args.why ≡ [] = ap (λ (b : Bool). if b then c.args.last.now ∷ [] else []) answered in
    puts_none (frames c.args.framing).spelled _ (last_reply c.args.last.now c.args.why) none c.requires.unbroken
