-- The names that the walks of src/raw.rt share.
pub use mathlib.Core.Path.{◌≡◌, refl, sym, ap, subst, ◌∙◌}
pub use Prim.Native.Nat.{ℕ, zero, suc, ◌+◌, ◌*◌, ◌<◌, ◌≤◌, ◌^◌}
pub use native.Mathlib.Omega.{arith}
pub use mathlib.Core.List.{List, [], ◌∷◌, ◌++◌, map}
pub use lib.Dec.{T, lit<}
pub use lib.ListN.{length, take, set, get_or, replicate, length-replicate, length-set, length-take}
pub use seplogic.Ra.Ura.{Ura}
pub use base.Fraction.{full_share}
pub use base.Logic.{SProp, ent, sep, emp, ex, guard, via, never, id⊢, mono_r}
pub use base.Fml.{Fml, Lft, GName, Share, ftrue, fsep, fat, flft, fobs, fbor, froom, Incl-trans}
pub use mir.Syntax.{Ty, Fn, Body, named, w64, ty_array, ty_unit}
pub use mir.MapTy.{inst_fn}
pub use mir.Val.{Val, vptr, vint, vunit, vstruct, vcons, vnil, of_list, has_ty, WT}
pub use prog.Memory.{Memory, align, capped}
pub use prog.Capped.{capped_fits}
pub use prog.Routine.{Routine}
pub use prog.Wp.{Env, Calls, Loops, Wp, WpFn, Tables, after_seq, at_return}
pub use types.Logic.{Logic, sem}
pub use types.SemTy.{Body as Lent_body}
pub use contract.Monad.{Fun, fact}
pub use contract.BorrowLft.{◌⊑◌}
pub use contract.Running.{tables}
unfoldable pub use contract.Running.{tables_of}
pub use sound.WpLaws.{WpFn-mono, FmC, fm_of}
pub use types.Kit.{Item, Goal, Seq, Step, Post as After, ⋆, step, prop, any_q, at_ret, ‵, raw, ◌⊛◌, some, given, later, await, learn, pick}
pub use types.Kit.{show, check, ◌$◌, ◌∵◌, !, qed, by, move, keep, drop, use0, use1, use2, use3, split, join, group, rewrite, frame, fsplit}
pub use types.Kit.{fsplit3, fjoin, fjoin3, fpick, fpack, feq_i, feq_l, flt_i, flt_l, suffices, done}
pub use types.Match.{live, vrt, in_variant}
pub use types.Part.{whole, sub, agg}
pub use types.Run.{init, look, load, stop, fld, lit, unit_lit, of_opd, bin, and_then, no_more, first, blocks, exec, assigns_last, returns}
pub use types.Run.{enter, size_lit, size_word, align_word, switches_on}
pub use types.ByLocal.{alloc_all, pass_all, free_all, look_at, take_at, give_at, get, get_in, get_tag, through, sets, sets_last, lands_as}
pub use types.ByLocal.{lands_last, is, env}
pub use denote.Exit.{yes, no}
pub use denote.RattleType.{RattleType, Valss, owns}
pub use denote.Laws.{Typed, Is, shows}
pub use denote.Memory.{mem, part_at, hidden_shr}
pub use denote.Param.{param, layout}
pub use denote.Param.Laws.{Laws, param_laws}
pub use denote.RawPtr.{Ptr, RawPtr, block_ptr, ptr_val, in_a_block}
pub use denote.Ref.{Bor, MutBor, MutRef, ShrRef}
pub use denote.Builtin.{RefOf, RefMutOf, SliceRefOf, usize, unit}
pub use denote.Signature.{plain}
pub use denote.Slice.{ShrSlice, slice_val, elements_shared}
pub use denote.Opens.{hide, unhide}
pub use denote.Shadow.{makes_shadow}
pub use denote.Steps.{nothing, owned, opens, closes, peeks}
pub use denote.Struct.Struct.{Shape, Struct, Struct-Makes, within}
pub use denote.Struct.Owning.{shape}
pub use denote.Struct.Tuple.{Tuple, tuple_type}
pub use denote.Triple.Carry.{spared}
pub use denote.Triple.Call.{calls_at, calls_at_last}
pub use denote.Triple.Clauses.{Clauses, Ended, closing}
pub use denote.Triple.Entry.{on_entry}
pub use denote.Triple.Spec.{Meets, triple_of}
pub use denote.Triple.Statement.{Triple}
pub use denote.Triple.Table.{entered, run_framed}
pub use denote.Triple.Walked.{says, needs, Stays, stay_dropped, stay_ref, walk_of, ends_at, Goes-dropped, Goes-ref, walk_Meets}
pub use borrow.Table.OneValue.{part_in, part_out}
pub use Rattle.std.specs.Prelude.{Option, Some, None, Ok, Err, IfOk}
pub use Rattle.std.specs.Mem.{type_size}
pub use Rattle.std.specs.Vec.Ownership.{FitsInBlock}
pub use Rattle.std.proofs.lemmas.List.{length-map}
pub use Rattle.core.proofs.mem.Param.{El, R, args, el_x, elτ}
pub use Rattle.core.proofs.ptr.Rows.{times_below, one_below}
pub use Rattle.core.proofs.slots.Leases.{uncapped, block_ty, block_size, block_align}
pub use Rattle.core.proofs.alloc.Calls.{Al, second, Goes-blank, token, takes_key, gives_key, Takes, at_takes, Answered, Answer-typed}
pub use Rattle.core.proofs.alloc.Calls.{Takes-goes, Takes-gives, answers, Gives, at_gives, Gives-goes, Gives-Gives}
pub use Rattle.std_alloc.proofs.RawLayout.{as_written, as_raw}
pub use Rattle.std_alloc.proofs.RcSteps.{Good, word, word-Good, first_Good}
pub use Rattle.std_alloc.proofs.ResultValues.{ok_of, err_of}
pub use Rattle.std_alloc.proofs.VecSteps.Shapes.{after, head, arm_body}
