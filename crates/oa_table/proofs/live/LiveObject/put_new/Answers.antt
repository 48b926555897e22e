use Rattle.std.proofs.Common.{◌≡◌, Ok, arith, rules}
use Rattle.oa_table.specs.promise.Objects.{with_put}
use Rattle.oa_table.proofs.Sums.{put_free_sum}
use Rattle.oa_table.proofs.live.LiveObject.put_new.Goals as goal

pub returns-in-Ok-clause-size : goal.returns-in-Ok-clause-size
returns-in-Ok-clause-size c =
    let made : with_put c.args.place c.args.value c.args.self.now ≡ Ok (record { class = c.self.inside.class; cells = c.insert.new.self }) = search rules in
    omega (arith, put_free_sum c.args.place c.args.value c.args.self.now _ c.requires made, c.place_size.ensures.value, c.value_size.ensures.value)
