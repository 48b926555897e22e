use Rattle.std.proofs.Common.{◌≡◌, drop, length}
use Rattle.oa_bind.specs.promise.Bindings.{parameter_value}
use Rattle.oa_bind.specs.Given.{Stay, given_call}
use Rattle.oa_bind.specs.promise.Refusals.{each_at}
use Rattle.oa_bind.proofs.Each.{with_front}
use Rattle.oa_bind.proofs.values.key.Given as goal

abbrev pub invariant-parameters : goal.invariant-parameters
invariant-parameters l = record {
  len : length l.arguments.items ≡ length l.fn.arguments.items;
  others : Stay l.fn.named l.fn.arguments.items l.arguments.items l.place;
  so_far : with_front l.key.items (each_at (parameter_value (given_call l.fn.named l.fn.arguments.items)) l.place (drop l.place l.parameters)) ≡ each_at
      (parameter_value (given_call l.fn.named l.fn.arguments.items)) 0 l.fn.parameters;
}
