use Rattle.std.proofs.Common.{◌≡◌, ◌+◌, ◌*◌, ◌≤◌, drop}
use Rattle.std.specs.List.{sum_by}
use Rattle.oa_formats.specs.promise.Lengths.{element_size}
use Rattle.oa_formats.specs.Lengths.{max_scalar_bytes}
use Rattle.oa_formats.proofs.array.elements_len.Given as goal

abbrev pub invariant-elements : goal.invariant-elements
invariant-elements l = record {
  value : l.len + sum_by (element_size l.elem) (drop l.s-index l.elements) ≡ sum_by (element_size l.elem) l.elements;
  small : l.len ≤ max_scalar_bytes * l.s-index;
}
