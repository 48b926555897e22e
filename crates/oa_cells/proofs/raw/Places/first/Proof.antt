-- `first` shows the values at the begin of the block as a slice. Assumes `Logic`.
use Rattle.oa_cells.proofs.Steps.{◌≡◌, refl, sym, ap, subst, ◌∙◌, ℕ, ◌*◌, ◌<◌, ◌^◌, arith, List, [], ◌∷◌, ◌++◌, map, length, take}
use Rattle.oa_cells.proofs.Steps.{length-take, Ura, full_share, SProp, ent, never, id⊢, Lft, Share, ftrue, fat, flft, Fn, named, w64}
use Rattle.oa_cells.proofs.Steps.{inst_fn, Val, vptr, vint, Env, Calls, Loops, WpFn, Tables, Logic, fact, tables, tables_of, WpFn-mono}
use Rattle.oa_cells.proofs.Steps.{Item, ⋆, at_ret, ‵, ◌⊛◌, ◌$◌, ◌∵◌, !, qed, by, move, keep, drop, use1, split, join, rewrite, frame}
use Rattle.oa_cells.proofs.Steps.{fsplit, fjoin, feq_i, feq_l, flt_i, flt_l, suffices, done, whole, sub, agg, stop, fld, of_opd, and_then}
use Rattle.oa_cells.proofs.Steps.{no_more, first, blocks, exec, returns, enter, alloc_all, pass_all, free_all, look_at, take_at, give_at}
use Rattle.oa_cells.proofs.Steps.{get, get_in, sets, sets_last, env, yes, no, RattleType, owns, hidden_shr, layout, Ptr, in_a_block, Bor}
use Rattle.oa_cells.proofs.Steps.{ShrRef, RefOf, SliceRefOf, usize, plain, ShrSlice, slice_val, elements_shared, hide, unhide, nothing}
use Rattle.oa_cells.proofs.Steps.{spared, Clauses, Ended, closing, on_entry, Meets, triple_of, entered, run_framed, says, needs, Stays}
use Rattle.oa_cells.proofs.Steps.{stay_dropped, walk_of, ends_at, Goes-dropped, walk_Meets, Some, length-map, El, R, args, el_x}
use Rattle.oa_cells.proofs.Steps.{times_below, word, word-Good, after}
use Rattle.oa_cells.specs.Places.{BeginsFilled}
use Rattle.oa_cells.specs.Ownership.{places_lent}
use Rattle.oa_cells.proofs.Rows.{Pl, St, size, start_had, first_lent}
use Rattle.oa_cells.specs.contracts.raw.Places.first.Key.{name as #self}
use Rattle.oa_cells.proofs.raw.Places.first.Statement as stated
use Rattle.oa_cells.proofs.raw.Places.first.Code as code

module _ (E : El) where
  abbrev function : Fn
  function = inst_fn (args E) code.function

  abbrev ended : Ended
  ended = record {
    signature = record {
      lifetimes = 1;
      outlives = [];
      params = RefOf (0 ∷ []) tt (plain (λ _. Pl E)) (λ _. tt) ∷ plain (λ _. St E) ∷ plain
          (λ _. usize) ∷ [];
      result = SliceRefOf (0 ∷ []) tt (plain (λ _. R E)) (λ _. tt);
    };
    kept = (yes, (no, (no, tt)));
  }

  abbrev stayed : Stays ended.signature.params ended.kept
  stayed =
      (stay_dropped (RefOf (0 ∷ []) tt (plain (λ _. Pl E)) (λ _. tt)) yes, (stay_dropped (plain (λ _. St E)) no, (stay_dropped (plain (λ _. usize)) no, tt)))

  abbrev Asks : (Pl E).Denot → (St E).Denot → ℕ → Type 0
  Asks p start len = (start.ptr ≡ p.at) × BeginsFilled p.slots len

  abbrev Tells : (Pl E).Denot → ℕ → List (el_x E) → Type 0
  Tells p len xs = take len p.slots ≡ map Some xs

  abbrev spec : {M : Type 1} {𝓤 : Ura M} (𝓛 : Logic 𝓤) → Clauses 𝓤 ended
  spec {𝓤 = 𝓤} 𝓛 κs a = record {
    ghost = Unit {0};
    requires = λ _. fact 𝓤 (Asks a.0.now a.1.0 a.1.1.0);
    ensures = λ _ r w. fact 𝓤
        (Tells a.0.now a.1.1.0 r.now);
  }

module _ (E : El) {M : Type 1} {𝓤 : Ura M} (𝓛 : Logic 𝓤) (C : Calls 𝓤 𝓛.H) (Λ : Loops 𝓤 𝓛.H) (κ : Lft) (q : Share) (rb ro : ℕ)
    (p : (Pl E).Denot) (start : (St E).Denot) (len : ℕ) (vs0 vs1 vs2 : List Val) where
  open 𝓛 use {H, A}

  abbrev self : Bor (Pl E).Denot
  self = record { ref_ptr = (rb, ro); now = p }

  abbrev bound : (walk_of 𝓛 (ended E) (stayed E) (spec E 𝓛)).Ghost
  bound = (((κ, tt), (q, tt), tt, (self, (start, (len, tt))), (vs0, (vs1, (vs2, tt)))), tt)

  abbrev Post : Val → SProp 𝓤
  Post = (walk_of 𝓛 (ended E) (stayed E) (spec E 𝓛)).post bound

  abbrev Slice : RattleType
  Slice = ShrSlice (named 0) κ (R E)

  at_end : (r : Slice.Denot) (v : Val) → Tells E p len r.now → ent 𝓤 (⋆ 𝓛 (‵ (flft κ q) ∷ ‵ (Slice.own_val r (v ∷ [])) ∷ [])) (Post v)
  at_end r v gives =
      qed 𝓛 (‵ (flft κ q) ∷ ‵ (Slice.own_val r (v ∷ [])) ∷ []) ∵
      suffices ! _ (ends_at 𝓛 (ended E) (stayed E) (spec E 𝓛) bound v r (tt, (tt, (tt, tt))) (tt, (tt, (tt, tt)))) $ says ! gives $
      nothing ! $ move ! (1 ∷ 0 ∷ []) $ join ! $ frame ! $ nothing ! $ nothing ! $ fjoin ! $ nothing ! $ fjoin ! $ nothing ! $ fjoin ! $ done !

  abbrev Given : List (Item 𝓤)
  Given = ‵ (hidden_shr (Pl E) κ p rb ro) ∷ ‵ (flft κ q) ∷ []

  walk : Asks E p start len → len < 2 ^ 64 → ent 𝓤 (⋆ 𝓛 Given)
      (WpFn 𝓤 H C Λ (function E) (vptr rb ro ∷ word start.ptr ∷ vint w64 len ∷ []) Post)
  walk asked fits =
      let n = length p.slots in let xs = asked.1.1.0 in let filled = asked.1.1.1 in
      let long : length xs ≡ len = omega (arith, asked.1.0, ap length filled, length-map xs Some, length-take len p.slots) in
      qed 𝓛 Given ∵ enter ! C Λ (function E) (vptr rb ro ∷ word start.ptr ∷ vint w64 len ∷ []) _ $
      alloc_all ! (λ l. pass_all ! refl ((tt, tt), (word-Good [] start.ptr, ((tt, record { fits = fits }), tt))) $
      let En : Env 𝓤 H = env (function E).locals l in
      unhide ! $ fsplit ! $ drop ! $ in_a_block ! p.at (λ at. places_lent (R E) at p.slots κ) (id⊢ 𝓤 (never 𝓤)) (λ b o e. fsplit ! $ flt_l ! (λ small.
      let at : ℕ × ℕ = (b, o) in
      take_at ! 2 $ rewrite ! 0 (λ (at : Ptr). ‵ (fat full_share (layout (St E)) (l 2) 0 (word at))) (asked.0 ∙ e) refl $ give_at ! 2 $ first ! $ blocks ! $
      use1 𝓛 (‵ (elements_shared (R E) xs b o κ)) (first_lent E 𝓛 b κ p.slots len o xs filled) $ hide ! $
      sets_last ! (agg ! (and_then ! (get_in ! (fld ! refl (stop !)) (sub ! 0 refl (whole !))) (and_then ! (get ! refl) (no_more !)))) refl
      (tt, (tt, (record { fits = fits }, tt))) $
      exec ! C Λ En (after 1 (function E).body) (at_ret En Post) $ sets ! (of_opd ! (get ! refl)) refl (tt, (tt, (record { fits = fits }, tt))) $
      flt_i ! (length xs * size E) (2 ^ 63) (times_below (length xs) n (size E) (2 ^ 63) (omega (arith, asked.1.0, long)) small) $ flt_i ! (length xs) (2 ^ 64)
      (omega (arith, long, fits)) $ fjoin ! $
      feq_i ! (List Val) (slice_val at len ∷ []) (slice_val at (length xs) ∷ []) (ap (λ k. slice_val at k ∷ []) (sym long)) $ fjoin ! $ fjoin ! $
      returns ! (look_at ! 0 refl) $ free_all ! refl $ keep ! (1 ∷ 0 ∷ []) $ by ! (at_end (record { ref_ptr = at; now = xs }) (slice_val at len) filled))))

  entry : Asks E p start len → ent 𝓤 (on_entry 𝓛 (ended E).signature (κ, tt) (q, tt) (self, (start, (len, tt))) (vs0, (vs1, (vs2, tt))))
      (WpFn 𝓤 H C Λ (function E) (vs0 ++ (vs1 ++ (vs2 ++ []))) Post)
  entry asked =
      qed 𝓛 ((‵ (flft κ q) ⊛ ‵ ftrue) ∷ ‵ (owns (ShrRef (named 0) κ (Pl E) ∷ St E ∷ usize ∷ []) (self, (start, (len, tt))) (vs0, (vs1, (vs2, tt)))) ∷ []) ∵
      split ! $ move ! (2 ∷ []) $ fsplit ! $ fsplit ! $ feq_l !
      (λ e0. move ! (1 ∷ []) $ fsplit ! $ start_had ! start.ptr vs1 (λ e1. fsplit ! $ fsplit ! $ feq_l ! (λ e2. flt_l ! (λ fits.
      keep ! (1 ∷ 2 ∷ []) $
      by ! (subst (λ (vss : List Val × List Val × List Val). ent 𝓤 (⋆ 𝓛 Given) (WpFn 𝓤 H C Λ (function E) (vss.0 ++ (vss.1 ++ (vss.2 ++ []))) Post))
      (λ i. (sym e0 i, sym e1 i, sym e2 i)) (walk asked fits))))))

meets : (E : El) {M : Type 1} {𝓤 : Ura M} (𝓛 : Logic 𝓤) (𝓣 : Tables 𝓤 𝓛.H)
    → Meets 𝓛 (ended E).signature (WpFn 𝓤 𝓛.H 𝓣.C 𝓣.Λ (function E)) (closing 𝓛 (ended E) (spec E 𝓛))
meets E {𝓤 = 𝓤} 𝓛 𝓣 =
    let Run = WpFn 𝓤 𝓛.H 𝓣.C 𝓣.Λ (function E) in
    walk_Meets 𝓛 (ended E) (stayed E) (
      Goes-dropped 𝓛 1 (RefOf (0 ∷ []) tt (plain (λ _. Pl E)) (λ _. tt)) yes (λ κs x f. refl),
      (Goes-dropped 𝓛 1 (plain (λ _. St E)) no (λ κs x f. refl), (Goes-dropped 𝓛 1 (plain (λ _. usize)) no (λ κs x f. refl), tt)),
    ) (spec E 𝓛) Run (WpFn-mono 𝓤 𝓛.H 𝓛.laws 𝓣 (function E)) (λ z.
    let a = z.0.3 in let vs = z.0.4 in let self = a.0 in
    needs 𝓤 (Asks E self.now a.1.0 a.1.1.0) _ (entry E 𝓛 𝓣.C 𝓣.Λ z.0.0.0 z.0.1.0 self.ref_ptr.0 self.ref_ptr.1 self.now a.1.0 a.1.1.0 vs.0 vs.1.0 vs.1.1.0))

pub first_spec : {M : Type 1} → stated.statement M
unfolding tables_of
first_spec 𝓤 𝓛 𝓜 𝓡 wired X LX y =
    let E : El = record { row = X; laws = LX } in let key = #self (args E) in let c = closing 𝓛 (ended E) (spec E 𝓛) in
    let 𝓣 : Tables 𝓤 𝓛.H = tables_of 𝓤 𝓛.H 𝓜 (tables 𝓤 𝓛.H 𝓜 𝓡 𝓡.env) in
    spared 𝓛 (ended E).signature (𝓡.run (𝓡.env key)) (run_framed 𝓤 𝓛.H 𝓜 𝓡 (𝓡.env key)) 1 (X.lives, tt) c
    (entered 𝓤 𝓛.H (triple_of 𝓛 (ended E).signature c) 𝓣.C 𝓣.Λ key (function E) (code.unfolded 𝓤 𝓛.H 𝓜 𝓡 wired (X, tt)) (meets E 𝓛 𝓣))
    ((y.0.0, y.0.1, tt, y.0.3, y.0.4), y.1)
