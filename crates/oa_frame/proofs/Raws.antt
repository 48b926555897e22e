-- Records of a length and that many bytes.
use Rattle.std.proofs.Common.{◌≡◌, ℕ, ◌+◌, ◌-◌, ◌≤◌, ◌<◌, Bool, false, List, ◌++◌, Option, Some, None, take, drop, length, refl, inr}
use Rattle.std.proofs.Common.{sym, ap, ◌∙◌, append_assoc, length-take-le, arith}
use Rattle.std.proofs.lemmas.List.{append-nil, drop_at, length-append, length-drop}
use lib.Seq.{take-add}
use Rattle.std.specs.Io.KnownBytes.{Consumes, IsAtEnd}
use Rattle.oa_model.specs.promise.Limits.{max_request_bytes}
use Rattle.oa_stream.specs.promise.Source.{Input, later}
use Rattle.oa_frame.specs.declared.ends.End.TheVariants.{Cut, ReadFault}
use Rattle.oa_frame.specs.promise.Known.{Known}
use Rattle.oa_frame.specs.promise.Framings.{records, SaysLength}
use Rattle.oa_frame.specs.Records.{Gets, SpendsCalls}
use Rattle.oa_frame.specs.declared.records.Got.TheVariants.{Fault}
use Rattle.oa_frame.specs.Paces.{Paced}

later_sum : (m k x : ℕ) → m ≤ k → later (k - m) (later (m - 0) x) ≡ later k x
later_sum m k x h = omega (arith, h)

pub two_paced : (fault : Bool) (four n m k : ℕ) (a b c : Input) → four ≡ 4 → n ≤ max_request_bytes → SpendsCalls false four 0 m a b
    → SpendsCalls fault n m k b c → Paced fault a c
two_paced fault four n m k a b c f h p q = record {
  tries = k;
  most = q.high;
  clock = q.clock ∙ ap (later (k - m)) p.clock ∙ later_sum m k a.calls q.low;
  cause = q.cause;
  on = λ s. let e = p.pace s in (q.on (p.steady s) (omega (arith, e, f, h)), q.steady (p.steady s));
}

pub known_cut : (a b c : Option (List ℕ)) (head part : List ℕ) (n : ℕ) → SaysLength head n → 0 < n → n ≤ max_request_bytes → length part < n
    → Consumes a b head → Consumes b c part → IsAtEnd c → Known (records.Stop Cut) a c
known_cut None b c head part n s some short few p q e = tt
known_cut (Some x) None c head part n s some short few p q e = absurd p
known_cut (Some x) (Some y) None head part n s some short few p q e = absurd q
known_cut (Some x) (Some y) (Some z) head part n s some short few p q e =
    let all : y ≡ part = q ∙ ap (λ l. part ++ l) e ∙ append-nil part in
    let four = s.four in
    record {
      nothing = e;
      some = rw (p, length-append head y) (omega (arith, four));
      few = inr (y, record { head = head; n = n; says = s; is = (some, short, rw all few); whole = p });
    }

pub known_lost : (a b c : Option (List ℕ)) (head part : List ℕ) (n : ℕ) → SaysLength head n → n ≤ max_request_bytes → length part < n
    → Consumes a b head → Consumes b c part → Known (records.Stop ReadFault) a c
known_lost None b c head part n s short few p q = tt
known_lost (Some x) None c head part n s short few p q = absurd p
known_lost (Some x) (Some y) None head part n s short few p q = absurd q
known_lost (Some x) (Some y) (Some z) head part n s short few p q = record {
  part = head ++ part;
  whole = p ∙ ap (λ l. head ++ l) q ∙ sym (append_assoc head part z);
  few = inr (part, record { head = head; n = n; says = s; is = (short, few); whole = refl });
}

-- what was taken for a buffer that is not full
pub lost_part : (a c : Option (List ℕ)) (out : List ℕ) (at : ℕ) → at < length out → Consumes a c (take at out) → Gets Fault a c out
lost_part a c out at short p =
    let within : at ≤ length out = omega (arith, short) in
    (take at out, rw (length-take-le at out within) short, p)

-- the last of some bytes behind others
last_part : (before one two : List ℕ) (n : ℕ) → length two ≡ n → drop (length (before ++ (one ++ two)) - n) (before ++ (one ++ two)) ≡ two
last_part before one two n size =
    let all = length-append before (one ++ two) in
    let both = length-append one two in
    let front = length-append before one in
    let same : length (before ++ (one ++ two)) - n ≡ length (before ++ one) = omega (arith, all, both, front, size) in
    ap (λ l. drop (length (before ++ (one ++ two)) - n) l) (sym (append_assoc before one two))
    ∙ drop_at (before ++ one) two (length (before ++ (one ++ two)) - n) (sym same)

-- a record that was read ahead whole
pub record_ahead : (a c : Option (List ℕ)) (front before passed : List ℕ) (n : ℕ) → SaysLength (take 4 front) n → 0 < n → n ≤ max_request_bytes
    → 4 + n ≤ length front
    → passed ≡ before ++ take (4 + n) front → Consumes a c (take (4 + n) front) → Known (λ x rest. records.Next x (drop (length passed - n) passed) rest) a c
record_ahead None c front before passed n s some short within e p = tt
record_ahead (Some x) None front before passed n s some short within e p = absurd p
record_ahead (Some x) (Some y) front before passed n s some short within e p =
    let body = take n (drop 4 front) in
    let parts : take (4 + n) front ≡ take 4 front ++ body = take-add 4 n front in
    let len : length body ≡ n = length-take-le n (drop 4 front) (rw (length-drop 4 front) (omega (arith, within))) in
    let got : drop (length passed - n) passed ≡ body = rw (e, parts) (last_part before (take 4 front) body n len) in
    record {
      head = take 4 front;
      says = rw (got, len) s;
      some = rw (got, len) some;
      short = rw (got, len) short;
      whole = p ∙ ap (λ l. l ++ y) (parts ∙ ap (λ l. take 4 front ++ l) (sym got)) ∙ append_assoc (take 4 front) (drop (length passed - n) passed) y;
    }

-- and it stands there
pub record_fits : (front before passed : List ℕ) (n : ℕ) → 4 + n ≤ length front → passed ≡ before ++ take (4 + n) front → n ≤ length passed
record_fits front before passed n within e =
    let all = ap length e ∙ length-append before (take (4 + n) front) in
    let part = length-take-le (4 + n) front within in
    omega (arith, all, part)
