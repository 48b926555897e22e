-- Bytes hold one list of bodies and one end of it, in a framing that decides each of them.
use Rattle.std.proofs.Common.{◌≡◌, ℕ, ◌+◌, List, [], ◌∷◌, length, Bool, refl, sym, subst, arith}
use Rattle.oa_frame.specs.declared.ends.End.{End}
use Rattle.oa_frame.specs.declared.ends.End.TheVariants.{ReadFault}
use Rattle.oa_frame.specs.promise.Framings.{Frames}
use Rattle.oa_frame.specs.promise.Sessions.{Bodies, CanStop, ReadTo}
use Rattle.oa_frame.specs.promise.Sessions.Halt.{At}

-- one body stands first, or one end
pub record IsDecided (f : Frames) : Type 0 where
  pub one : (bytes body other mid mid' : List ℕ) → f.Next bytes body mid → f.Next bytes other mid' → (body ≡ other) × (mid ≡ mid')
  pub apart : (why : End) (bytes body mid rest : List ℕ) → f.Next bytes body mid → f.Stop why bytes rest → (why ≡ ReadFault → ⊥) → ⊥
  pub end : (why other : End) (number : ℕ) (bytes rest rest' : List ℕ) → f.Stop why bytes rest → f.Can number why → (why ≡ ReadFault → ⊥)
      → f.Stop other bytes rest' → f.Can number other → (other ≡ ReadFault → ⊥) → why ≡ other

one_reading : (f : Frames) → IsDecided f → (k : ℕ) (bytes mid mid' rest rest' : List ℕ) (bodies others : List (List ℕ)) (why other : End)
    → Bodies f bytes bodies mid → f.Stop why mid rest → f.Can (k + length bodies) why → (why ≡ ReadFault → ⊥)
    → Bodies f bytes others mid' → f.Stop other mid' rest' → f.Can (k + length others) other → (other ≡ ReadFault → ⊥)
    → (bodies ≡ others) × (why ≡ other)
one_reading f d k bytes mid mid' rest rest' [] [] why other h s can fair h' s' can' fair' = (
  refl,
  d.end why other (k + 0) bytes rest rest' (subst (λ l. f.Stop why l rest) (sym h) s) can fair (subst (λ l. f.Stop other l rest') (sym h') s') can'
      fair',
)
one_reading f d k bytes mid mid' rest rest' [] (b ∷ others) why other h s can fair h' s' can' fair' =
    absurd (d.apart why bytes b h'.0 rest h'.1 (subst (λ l. f.Stop why l rest) (sym h) s) fair)
one_reading f d k bytes mid mid' rest rest' (b ∷ bodies) [] why other h s can fair h' s' can' fair' =
    absurd (d.apart other bytes b h.0 rest' h.1 (subst (λ l. f.Stop other l rest') (sym h') s') fair')
one_reading f d k bytes mid mid' rest rest' (b ∷ bodies) (c ∷ others) why other h s can fair h' s' can' fair' =
    let same = d.one bytes b c h.0 h'.0 h.1 h'.1 in
    let next : Bodies f h.0 others mid' = subst (λ l. Bodies f l others mid') (sym same.1) h'.2 in
    let n : k + length (b ∷ bodies) ≡ k + 1 + length bodies = omega arith in
    let m : k + length (c ∷ others) ≡ k + 1 + length others = omega arith in
    let more = one_reading f d (k + 1) h.0 mid mid' rest rest' bodies others why other h.2 s (subst (λ i. f.Can i why) n can) fair next s'
    (subst (λ i. f.Can i other) m can') fair' in
    (rw (same.0, more.0) refl, more.1)

pub one_end : (f : Frames) → IsDecided f → (bytes rest rest' : List ℕ) (barrier : List ℕ → Bool) (bodies others : List (List ℕ)) (why other : End)
    → ReadTo f (At why) bodies bytes rest → CanStop f barrier (length bodies) (At why) → (why ≡ ReadFault → ⊥)
    → ReadTo f (At other) others bytes rest' → CanStop f barrier (length others) (At other) → (other ≡ ReadFault → ⊥)
    → (bodies ≡ others) × (why ≡ other)
one_end f d bytes rest rest' barrier bodies others why other r can fair r' can' fair' =
    let n : length bodies + 1 ≡ 1 + length bodies = omega arith in
    let m : length others + 1 ≡ 1 + length others = omega arith in
    one_reading f d 1 bytes r.0 r'.0 rest rest' bodies others why other r.1 r.2 (subst (λ i. f.Can i why) n can) fair r'.1 r'.2
    (subst (λ i. f.Can i other) m can') fair'
