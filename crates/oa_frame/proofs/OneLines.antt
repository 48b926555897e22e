-- Lines hold one list of bodies, and one end of it.
use Rattle.std.proofs.Common.{◌≡◌, ◌≤◌, ◌<◌, ℕ, List, [], ◌∷◌, length, refl, sym, ap, ◌∙◌, subst, inl, inr, ◌⊎◌, arith, true, false}
use Rattle.std.proofs.Common.{true≢false}
use Rattle.std.specs.Prelude.{nat_lt, if◌then◌else◌, Result, Ok, Err, IsErr}
use Rattle.hex.specs.Hex.{decode_of, decode_pairs}
use Rattle.hex.specs.declared.error.FromHexError.{FromHexError}
use Rattle.oa_model.specs.promise.Limits.{max_line_characters}
use Rattle.oa_frame.specs.declared.ends.End.{End}
use Rattle.oa_frame.specs.declared.ends.End.TheVariants.{Closed, Cut, TooLong, BadHex, ReadFault, WriteFault}
use Rattle.oa_frame.specs.promise.Lines.{FirstLine}
use Rattle.oa_frame.specs.promise.Framings.{LineCan, LineStop, NextLine, hex_lines}
use Rattle.oa_frame.proofs.OneSplit.{no_end, one_line}
use Rattle.oa_frame.proofs.OneReading.{IsDecided}

nothing_first : (line rest : List ℕ) → FirstLine [] line rest → ⊥
nothing_first line rest (inl a) = no_end a.raw [] rest tt (sym a.whole)
nothing_first line rest (inr a) =
    let some = a.some in
    let e = ap (λ (l : List ℕ). length l) a.whole in
    omega (arith, some, e)

-- the end at a line that is no body
judged : ℕ → List ℕ → End
judged number [] = Closed
judged number (c ∷ line) = if nat_lt max_line_characters (length (c ∷ line)) then TooLong else BadHex number

record Judged (why : End) (number : ℕ) (bytes : List ℕ) : Type 0 where
  line : List ℕ
  rest : List ℕ
  first : FirstLine bytes line rest
  is : why ≡ judged number line

abbrev Says : End → ℕ → List ℕ → Type 0
Says why number bytes = ((bytes ≡ []) × (why ≡ Closed)) ⊎ Judged why number bytes

bad : (number : ℕ) (line : List ℕ) → length line ≤ max_line_characters → IsErr (decode_of line) → BadHex number ≡ judged number line
unfolding decode_pairs judged
bad number [] short e = absurd (true≢false (sym e))
bad number (c ∷ line) short e =
    let is : nat_lt max_line_characters (length (c ∷ line)) ≡ false = search (arith, short) in
    rw is refl

long_one : (number : ℕ) (line : List ℕ) → max_line_characters < length line → TooLong ≡ judged number line
unfolding judged
long_one number [] long = absurd (omega (arith, long))
long_one number (c ∷ line) long =
    let is : nat_lt max_line_characters (length (c ∷ line)) ≡ true = search (arith, long) in
    rw is refl

says : (why : End) (number : ℕ) (bytes rest : List ℕ) → LineStop why bytes rest → LineCan number why → (why ≡ ReadFault → ⊥) → Says why number bytes
unfolding judged
says Closed number bytes rest (inl s) can fair = inl (s.0, refl)
says Closed number bytes rest (inr s) can fair = inr (record { line = []; rest = rest; first = s; is = refl })
says Cut number bytes rest s can fair = absurd s
says TooLong number bytes rest s can fair = inr (record { line = s.line; rest = s.after; first = s.first; is = long_one number s.line s.long })
says (BadHex line) number bytes rest s can fair = inr (record { line = s.line; rest = rest; first = s.first; is = rw can (bad number s.line s.short s.digits) })
says ReadFault number bytes rest s can fair = absurd (fair refl)
says WriteFault number bytes rest s can fair = absurd s

one_said : (why other : End) (number : ℕ) (bytes : List ℕ) → Says why number bytes → Says other number bytes → why ≡ other
one_said why other number bytes (inl a) (inl b) = a.1 ∙ sym b.1
one_said why other number bytes (inl a) (inr b) = absurd (nothing_first b.line b.rest (subst (λ l. FirstLine l b.line b.rest) a.0 b.first))
one_said why other number bytes (inr a) (inl b) = absurd (nothing_first a.line a.rest (subst (λ l. FirstLine l a.line a.rest) b.0 a.first))
one_said why other number bytes (inr a) (inr b) = a.is ∙ ap (judged number) (one_line bytes a.line b.line a.rest b.rest a.first b.first).0 ∙ sym b.is

-- a body is no end
apart : (why : End) (bytes body mid rest : List ℕ) → NextLine bytes body mid → LineStop why bytes rest → (why ≡ ReadFault → ⊥) → ⊥
apart Closed bytes body mid rest n (inl s) fair = nothing_first n.line mid (subst (λ l. FirstLine l n.line mid) s.0 n.first)
apart Closed bytes body mid rest n (inr s) fair =
    let e = ap (λ (l : List ℕ). length l) (one_line bytes n.line [] mid rest n.first s).0 in
    let some = n.some in
    omega (arith, some, e)
apart Cut bytes body mid rest n s fair = s
apart TooLong bytes body mid rest n s fair =
    let e = ap (λ (l : List ℕ). length l) (one_line bytes n.line s.line mid s.after n.first s.first).0 in
    let short = n.short in
    let long = s.long in
    omega (arith, short, long, e)
apart (BadHex line) bytes body mid rest n s fair =
    let same = (one_line bytes n.line s.line mid rest n.first s.first).0 in
    let is : IsErr (decode_of n.line) = subst (λ l. IsErr (decode_of l)) (sym same) s.digits in
    true≢false (sym (subst IsErr n.digits is))
apart ReadFault bytes body mid rest n s fair = fair refl
apart WriteFault bytes body mid rest n s fair = s

decoded : Result (List ℕ) FromHexError → List ℕ
decoded (Ok bytes) = bytes
decoded (Err e) = []

one_body : (bytes body other mid mid' : List ℕ) → NextLine bytes body mid → NextLine bytes other mid' → (body ≡ other) × (mid ≡ mid')
unfolding decoded
one_body bytes body other mid mid' n m =
    let same = one_line bytes n.line m.line mid mid' n.first m.first in
    (ap decoded (sym n.digits ∙ ap decode_of same.0 ∙ m.digits), same.1)

pub lines_decided : IsDecided hex_lines
lines_decided = record {
  one = one_body;
  apart = apart;
  end = λ why other number bytes rest rest' s can fair s' can' fair'. one_said why other number bytes (says why number bytes rest s can fair)
      (says other number bytes rest' s' can' fair');
}
