-- What the walks of calls that lend a workspace cite.
pub use Rattle.std.proofs.Common.{◌≡◌, ℕ, List, [], ◌∷◌, refl, subst, w64}
pub use Rattle.std.proofs.raw_atomic.Walks.{proved}
pub use base.Logic.{id⊢, emp, ent}
pub use base.Fml.{Fml, ftrue, fsep, flft}
pub use mir.Syntax.{Dict, named, a_type, dcons, dnil}
pub use mir.MapTy.{inst_fn}
pub use contract.Running.{tables}
pub use contract.Monad.{fact, fact_i}
pub use types.Kit.{Item, mean, ‵, raw, ◌⊛◌, some, later, ◌$◌, ◌∵◌, !, qed, done, move, keep, drop, use0, use1, use2}
pub use types.Kit.{split, join, pick, await, suffices, group}
pub use types.Run.{enter, addr, stop, no_more, and_then, returns}
pub use types.ByLocal.{alloc_all, pass_all, free_all, look_at, get, through, sets, lands_as}
pub use denote.Builtin.{u8, usize, RefOf, RefMutOf, SliceRefOf}
pub use denote.Exit.{yes, no}
pub use denote.Laws.{Is, shows}
pub use denote.Param.{param, bounded}
pub use denote.Plain.{uint_vals, uint_Tells}
pub use denote.RattleType.{RattleType}
pub use denote.Ref.{MutRef, ShrRef, mut_vals, mut_Tells, shr_vals, shr_Tells}
pub use denote.Signature.{Slot, type_at, plain}
pub use denote.Slice.{ShrSlice, shr_slice_vals, shr_slice_Tells}
pub use denote.Steps.{nothing, heard, peeks}
pub use denote.Triple.Call.{calls_at}
pub use denote.Triple.Clauses.{Lasts, lasts, at_exit}
pub use denote.Triple.Spec.{triple_of}
pub use denote.Triple.Walked.{Stays, walk_of, stay_dropped, gave_ref, Goes-dropped, Goes-gave_ref, ends_at}
pub use denote.Triple.Table.{framed}
