use Rattle.std.proofs.Common.{◌++◌, ◌∷◌, [], length, refl, ◌∙◌, ap}
use Rattle.oa_disk.specs.declared.call.DeviceCall.TheVariants.{Write}
use Rattle.oa_disk.specs.promise.Disk.{layered, DiskState}
use Rattle.oa_disk.proofs.Laid.{one_more}
use Rattle.oa_disk.proofs.Recorded.{whole_is, state_is}
use Rattle.oa_disk.proofs.layers.SparseImage.put.Goals as goal

pub invariant_of-self-2-clause-whole : goal.invariant_of-self-2-clause-whole
invariant_of-self-2-clause-whole c =
    let self = c.args.self.now in
    let bytes = c.args.bytes.now in
    let call = Write c.args.at (length c.args.bytes.now) in
    let is = one_more self.size self.calls.items self.written.items call bytes _ _
    (c.push_reserved.ensures.items ∙ ap (λ l. l ++ call ∷ []) c.reserve.ensures.items) c.in_ok-extend_from_slice.ensures.items in
    whole_is self.size (layered self.size self.calls.items self.written.items) self.whole call bytes (refl, c.requires, λ i. (c.type_inv.bytes i).fits) _ is

pub returns-clause-bytes : goal.returns-clause-bytes
returns-clause-bytes c =
    let self = c.args.self.now in
    let bytes = c.args.bytes.now in
    let call = Write c.args.at (length c.args.bytes.now) in
    let is = one_more self.size self.calls.items self.written.items call bytes _ _
    (c.push_reserved.ensures.items ∙ ap (λ l. l ++ call ∷ []) c.reserve.ensures.items) c.in_ok-extend_from_slice.ensures.items in
    ap (λ (s : DiskState). s.contents) (state_is self.size (layered self.size self.calls.items self.written.items) self.whole call bytes
    (refl, c.requires, λ i. (c.type_inv.bytes i).fits) _ is)
