-- A file that holds at first what another held, and zeros behind it.
use Rattle.std.proofs.Common.{◌≡◌, ℕ, ◌+◌, ◌-◌, ◌++◌, length, refl, sym, ◌∙◌, ap, subst, arith, length-append}
use Rattle.oa_disk.specs.promise.Disk.{Only, contents_of, image_of, zeros}
use Rattle.oa_disk.specs.History.{IsHistory}
use Rattle.oa_disk.specs.declared.record.Record.{Record}
use Rattle.oa_disk.specs.Overwritten.{append_bytes}
use Rattle.oa_disk.specs.Record.{lengthened, recorded_history}
use Rattle.oa_disk.specs.Replaying.{contents_size, contents_bytes}
use Rattle.oa_disk.proofs.Laid.{none_whole}
use Rattle.oa_disk.proofs.Noted.{first_only}

module _ (size : ℕ) (before : Record) (whole : IsHistory size (recorded_history before)) (asked : ℕ) (r : Record) (is : r ≡ lengthened before asked) where
  -- zeros behind what it held
  added : contents_of (recorded_history r) ≡ contents_of (recorded_history before) ++ zeros (asked - length (contents_of (recorded_history before)))
  added = ap (λ (x : Record). contents_of (recorded_history x)) is

  pub holds_the_same : contents_of (recorded_history r) ≡ contents_of (recorded_history before) ++ zeros (asked - size)
  holds_the_same =
      added ∙ ap (λ (n : ℕ). contents_of (recorded_history before) ++ zeros (asked - n)) (contents_size size (recorded_history before) whole)

  pub lengthened_settled : Only (contents_of (recorded_history r)) (image_of (recorded_history r))
  lengthened_settled =
      subst (λ (x : Record). Only (contents_of (recorded_history x)) (image_of (recorded_history x))) (sym is)
      (first_only (lengthened before asked).first)

  pub lengthened_whole : (long : ℕ) → long ≡ size + (asked - size) → IsHistory long (recorded_history r)
  lengthened_whole long is_long = subst (λ (x : Record). IsHistory long (recorded_history x)) (sym is) record {
    bytes_of_first =
        append_bytes (contents_of (recorded_history before)) (zeros (asked - length (contents_of (recorded_history before))))
        (contents_bytes size (recorded_history before) whole)
        (none_whole (asked - length (contents_of (recorded_history before)))).bytes_of_first;
    size_of_first =
        omega (
          arith,
          length-append (contents_of (recorded_history before)) (zeros (asked - length (contents_of (recorded_history before)))),
          (none_whole (asked - length (contents_of (recorded_history before)))).size_of_first,
          contents_size size (recorded_history before) whole,
          is_long,
        );
    bytes_of_all = λ i. omega arith;
    count_of_all = refl;
    inside = λ k at count never. absurd (cc);
  }
