use Rattle.std.proofs.Common.{◌≡◌, ◌++◌, ◌+◌, ◌≤◌, ◌<◌, ℕ, List, [], length, take, IfSome, rules, arith, string_bytes, subst, sym}
use Rattle.std.specs.Option.{option_map}
use Rattle.oa_commands.proofs.Limits.{above, whole}
use Rattle.oa_commands.proofs.library.text_of.Goals as goal

pub returns-clause-whole : goal.returns-clause-whole
returns-clause-whole g c =
    let known = g.R.Read.remaining c.args.reader.now in
    let bytes = c.read_to_end.new.buf.items in
    let read : IfSome (option_map (take (262144 + 1)) known) (λ xs. bytes ≡ [] ++ xs) =
    rw (c.take.ensures.limit, c.take.ensures.inner, c.new-bytes.ensures.items) at c.in_default.ensures.bytes in
    let short : length bytes ≤ 262144 = search rules in
    let same : string_bytes c.in-Ok.text ≡ bytes = search rules in
    subst (λ (l : List ℕ). IfSome known (λ all. (length all ≤ 262144) × (l ≡ all))) (sym same) (whole known 262144 bytes read short)

pub returns-then-len-gt-MAX_LIBRARY_BYTES-clause-long : goal.returns-then-len-gt-MAX_LIBRARY_BYTES-clause-long
returns-then-len-gt-MAX_LIBRARY_BYTES-clause-long g c =
    let known = g.R.Read.remaining c.args.reader.now in
    let bytes = c.read_to_end.new.buf.items in
    let read : IfSome (option_map (take (262144 + 1)) known) (λ xs. bytes ≡ [] ++ xs) =
    rw (c.take.ensures.limit, c.take.ensures.inner, c.new-bytes.ensures.items) at c.in_default.ensures.bytes in
    let long : 262144 < length bytes = search rules in
    λ is. above known 262144 bytes read long
