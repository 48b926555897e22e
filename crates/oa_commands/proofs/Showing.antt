-- A name's characters, one after another.
use Rattle.std.proofs.Common.{◌≡◌, ◌∙◌, ◌++◌, ℕ, List, [], ◌∷◌, length, sym, ap, arith, append-nil}
use Rattle.std.specs.Char.{encode_utf8}
use Rattle.std.specs.List.{flat_map}
use Rattle.std.specs.Str.{chars, IsUtf8}
use Rattle.std.proofs.lemmas.Str.{chars_past_char, chars-nil, IsUtf8-past_char}
use Rattle.std.proofs.lemmas.List.{append_assoc}
use Rattle.oa_commands.specs.Shown.{shown_character}

pub goes_on : (shown next before rest all : List ℕ) (c : ℕ) → IsUtf8 before → before ≡ encode_utf8 c ++ rest
    → next ≡ shown ++ shown_character c → shown ++ flat_map shown_character (chars before) ≡ all
    → IsUtf8 rest × (next ++ flat_map shown_character (chars rest) ≡ all)
goes_on shown next before rest all c utf8 step put so_far = (
  IsUtf8-past_char before rest c utf8 step,
  ap (λ (s : List ℕ). s ++ flat_map shown_character (chars rest)) put
      ∙ append_assoc shown (shown_character c) (flat_map shown_character (chars rest))
      ∙ ap (λ (cs : List ℕ). shown ++ flat_map shown_character cs) (sym (chars_past_char before rest c utf8 step))
      ∙ so_far,
)

pub ends : (shown rest all : List ℕ) → length rest ≡ 0 → shown ++ flat_map shown_character (chars rest) ≡ all → shown ≡ all
ends shown [] all none so_far = sym (append-nil shown) ∙ ap (λ (cs : List ℕ). shown ++ flat_map shown_character cs) (sym chars-nil) ∙ so_far
ends shown (b ∷ bs) all none so_far = absurd (omega (arith, none))
