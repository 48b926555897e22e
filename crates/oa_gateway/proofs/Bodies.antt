-- The bodies of requests.
use Rattle.std.proofs.Common.{◌≡◌, ◌⊎◌, inl, inr, ◌<◌, ◌≤◌, ℕ, ◌+◌, List, [], ◌∷◌, ◌++◌, length, take, drop, take-take, refl, sym, ap, ◌∙◌, subst, arith}
use Rattle.std.proofs.Common.{append_assoc}
use Rattle.std.proofs.lemmas.List.{append-nil, length-drop, length-take-le, take-append-drop}
use Rattle.std.proofs.Math.Seq.{take-add}
use Rattle.std.specs.Int.{w32, from_le_bytes}
use Rattle.oa_model.specs.promise.Limits.{max_request_bytes}
use Rattle.oa_frame.specs.promise.Framings.{NextRecord, records}
use Rattle.oa_frame.specs.promise.Sessions.{Bodies}
use Rattle.oa_mux.specs.Readers.{IsPartRecord, IsWholeRecord}
use Rattle.oa_mux.specs.promise.Readers.{said}
use Rattle.oa_gateway.specs.WholeRequests.{AreRequests, EndsRequests}

-- a body and what follows it, and some bytes more
next_then : (bytes body rest back : List ℕ) → NextRecord bytes body rest → NextRecord (bytes ++ back) body (rest ++ back)
next_then bytes body rest back n = record {
  head = n.head;
  says = n.says;
  some = n.some;
  short = n.short;
  whole = ap (λ l. l ++ back) n.whole ∙ append_assoc n.head (body ++ rest) back ∙ ap (λ l. n.head ++ l) (append_assoc body rest back);
}

bodies_then : (bytes rest back : List ℕ) (bodies : List (List ℕ)) → Bodies records bytes bodies rest → Bodies records (bytes ++ back) bodies (rest ++ back)
bodies_then bytes rest back [] h = ap (λ l. l ++ back) h
bodies_then bytes rest back (b ∷ bodies) h = (h.0 ++ back, next_then bytes b h.0 back h.1, bodies_then h.0 rest back bodies h.2)

bodies_more : (bytes mid rest : List ℕ) (bodies : List (List ℕ)) (body : List ℕ) → Bodies records bytes bodies mid → NextRecord mid body rest
    → Bodies records bytes (bodies ++ body ∷ []) rest
bodies_more bytes mid rest [] body h n = (rest, subst (λ l. NextRecord l body rest) (sym h) n, refl)
bodies_more bytes mid rest (b ∷ bodies) body h n = (h.0, h.1, bodies_more h.0 mid rest bodies body h.2 n)

-- one whole request
whole_next : (one : List ℕ) → IsWholeRecord one → NextRecord one (drop 4 one) []
whole_next one w =
    let some = w.some in
    let short = w.short in
    let all = w.all in
    let d = length-drop 4 one in
    let b : length (drop 4 one) ≡ said one = omega (arith, all, d) in
    record {
      head = take 4 one;
      says = record { four = length-take-le 4 one (omega (arith, all)); says = sym b };
      some = omega (arith, b, some);
      short = omega (arith, b, short);
      whole = sym (take-append-drop 4 one) ∙ ap (λ l. take 4 one ++ l) (sym (append-nil (drop 4 one)));
    }

one_more : (front one : List ℕ) (bodies : List (List ℕ)) → AreRequests front bodies → IsWholeRecord one → AreRequests (front ++ one) (bodies ++ drop 4 one ∷ [])
one_more front one bodies h w = bodies_more (front ++ one) one [] bodies (drop 4 one) (bodies_then front [] one bodies h) (whole_next one w)

pub no_requests : (bytes : List ℕ) → (bodies : List (List ℕ)) × AreRequests (take 0 bytes) bodies
no_requests bytes = ([], refl)

pub requests_more : (bytes : List ℕ) (whole count : ℕ) → IsWholeRecord (take count (drop whole bytes))
    → ((bodies : List (List ℕ)) × AreRequests (take whole bytes) bodies) → (bodies : List (List ℕ)) × AreRequests (take (whole + count) bytes) bodies
requests_more bytes whole count w h =
    let one : List ℕ = take count (drop whole bytes) in (
      h.0 ++ drop 4 one ∷ [],
      subst (λ l. AreRequests l (h.0 ++ drop 4 one ∷ [])) (sym (take-add whole count bytes)) (one_more (take whole bytes) one h.0 h.1 w),
    )

pub whole_more : (bytes rest : List ℕ) (whole count : ℕ) → rest ≡ drop whole bytes → whole ≤ length bytes → (count ≤ length rest)
    × IsWholeRecord (take count rest)
    → ((bodies : List (List ℕ)) × AreRequests (take whole bytes) bodies) → (whole + count ≤ length bytes)
    × ((bodies : List (List ℕ)) × AreRequests (take (whole + count) bytes) bodies)
whole_more bytes rest whole count e within w h =
    let len = length-drop whole bytes in
    let same = ap length e in
    let few = w.0 in
    (omega (arith, len, same, few, within), requests_more bytes whole count (subst (λ l. IsWholeRecord (take count l)) e w.1) h)

-- a whole request has five bytes at least
pub some_bytes : (bytes : List ℕ) (count : ℕ) → count ≤ length bytes → IsWholeRecord (take count bytes) → 0 < count
some_bytes bytes count room w =
    let all = w.all in
    let len = length-take-le count bytes room in
    omega (arith, all, len)

-- ---- what some bytes begin with

said_part : (bytes : List ℕ) (n : ℕ) → 4 ≤ n → said (take n bytes) ≡ said bytes
said_part bytes n h = ap (from_le_bytes w32) (take-take 4 n bytes h)

pub is_whole : (bytes : List ℕ) (n : ℕ) → n ≡ said bytes → 0 < n → n ≤ max_request_bytes → 4 + n ≤ length bytes → (4 + n ≤ length bytes)
    × IsWholeRecord (take (4 + n) bytes)
is_whole bytes n e some short room =
    let s : said (take (4 + n) bytes) ≡ said bytes = said_part bytes (4 + n) (omega arith) in (
      room,
      record {
        some = omega (arith, s, e, some);
        short = omega (arith, s, e, short);
        all = length-take-le (4 + n) bytes room ∙ ap (λ k. 4 + k) (e ∙ sym s);
      },
    )

pub is_wrong : (bytes : List ℕ) (n : ℕ) → n ≡ said bytes → 4 ≤ length bytes → (n ≡ 0) ⊎ (max_request_bytes < n) → EndsRequests (take 4 bytes)
is_wrong bytes n e room (inl h) =
    let s : said (take 4 bytes) ≡ said bytes = said_part bytes 4 (omega arith) in
    record { four = length-take-le 4 bytes room; wrong = inl (omega (arith, s, e, h)) }
is_wrong bytes n e room (inr h) =
    let s : said (take 4 bytes) ≡ said bytes = said_part bytes 4 (omega arith) in
    record { four = length-take-le 4 bytes room; wrong = inr (omega (arith, s, e, h)) }

pub is_part : (bytes : List ℕ) (n : ℕ) → n ≡ said bytes → 0 < n → n ≤ max_request_bytes → length bytes < 4 + n → IsPartRecord bytes
is_part bytes n e some short few = inr (record { some = omega (arith, e, some); short = omega (arith, e, short); few = omega (arith, e, few) })
