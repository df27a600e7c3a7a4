-- Provisional entries, for when their goals are asked later.
use Rattle.std.proofs.Common.{◌≡◌, ℕ, ◌≤◌, List, [], ◌∷◌, ◌++◌, length, arith, ap, sym, ◌∙◌, length-append, Some}
use Rattle.std.proofs.Common.{slice_get, ◌<◌}
use Rattle.open_graphs.specs.Words.{Verdict, Node, Entry, path_kind, path_through, Heads, Use, HeadsWithin, Includes}
use Rattle.open_graphs.specs.Words.{Grown, IsLeaf, IsSameOrFresh, ProvisionalUse, Unfinished, UsesNo}
use Rattle.open_graphs.proofs.PathKinds.{through_step, through_push, through_same}
use Rattle.open_graphs.proofs.Keep.{growth_keeps_use, heads_keep_use, push_keeps_use, pop_keeps_use}
use Rattle.open_graphs.proofs.Keep.{rerun_keeps_use, unused_is_unreached}

pub included : (heads : Heads) → Includes heads heads
included heads depth path cycle h = h

-- the same use, where the path kind from each head is the same
pub along : (nodes : List Node) (verdict : Verdict) (stack : List Entry) (from_head other : ℕ → ℕ)
    (a : ℕ) (heads : Heads) (highest : ℕ)
    → HeadsWithin heads highest → ((depth : ℕ) → depth ≤ highest → from_head depth ≡ other depth)
    → Use nodes verdict stack from_head 0 a heads → Use nodes verdict stack other 0 a heads
along nodes verdict stack from_head other a heads highest within same u = heads_keep_use nodes verdict stack from_head
    other 0 a heads heads (included heads) (λ depth path cycle h. same depth (within depth path cycle h)) u

-- A finished goal's answer may become a provisional entry, with its highest head and the path kind from there.
pub use_gives_stored :
    (nodes : List Node) (verdict : Verdict) (stack : List Entry) (step a : ℕ) (heads : Heads) (highest : ℕ)
    → highest < length stack → HeadsWithin heads highest → Use nodes verdict stack (path_kind stack step) 0 a heads
    → ProvisionalUse nodes verdict stack highest (path_kind stack step highest) a heads
use_gives_stored nodes verdict stack step a heads highest on_stack within u = record {
  on_stack = on_stack;
  within = within;
  use_there =
      along nodes verdict stack (path_kind stack step) (path_through stack highest (path_kind stack step highest)) a
      heads highest within (λ depth h. sym (through_step stack highest step depth h)) u;
}

-- It may be given again wherever that path kind is the same.
pub stored_gives_use :
    (nodes : List Node) (verdict : Verdict) (stack : List Entry) (step a : ℕ) (heads : Heads) (highest path : ℕ)
    → path_kind stack step highest ≡ path → ProvisionalUse nodes verdict stack highest path a heads
    → Use nodes verdict stack (path_kind stack step) 0 a heads
stored_gives_use nodes verdict stack step a heads highest path same s =
    along nodes verdict stack (path_through stack highest path) (path_kind stack step) a heads highest s.within
    (λ depth h. ap (λ x. path_through stack highest x depth) (sym same) ∙ through_step stack highest step depth h)
    s.use_there

-- A provisional entry stays right while the list grows.
pub growth_keeps_stored :
    (before after : List Node) (verdict : Verdict) (stack : List Entry) (highest path a : ℕ) (heads : Heads)
    → Grown before after → ProvisionalUse before verdict stack highest path a heads
    → ProvisionalUse after verdict stack highest path a heads
growth_keeps_stored before after verdict stack highest path a heads grown s = record {
  on_stack = s.on_stack;
  within = s.within;
  use_there = growth_keeps_use before after verdict stack (path_through stack highest path) 0 a heads grown s.use_there;
}

-- It stays when an entry with a fresh node is pushed.
pub push_keeps_stored :
    (nodes : List Node) (verdict : Verdict) (stack : List Entry) (entry : Entry) (highest path a : ℕ) (heads : Heads)
    → slice_get nodes entry.node ≡ Some Unfinished → ¬ IsLeaf stack entry.node
    → ProvisionalUse nodes verdict stack highest path a heads
    → ProvisionalUse nodes verdict (stack ++ entry ∷ []) highest path a heads
push_keeps_stored nodes verdict stack entry highest path a heads unfinished ne s = let on = s.on_stack in record {
  on_stack = omega (arith, length-append stack (entry ∷ []));
  within = s.within;
  use_there = along nodes verdict (stack ++ entry ∷ []) (path_through stack highest path)
      (path_through (stack ++ entry ∷ []) highest path) a heads highest s.within
      (λ depth h. sym (through_push stack entry highest path depth s.on_stack))
      (push_keeps_use nodes verdict stack entry (path_through stack highest path) 0 a heads unfinished ne s.use_there);
}

-- It stays when an entry above its highest head is popped.
pub pop_keeps_stored :
    (nodes : List Node) (verdict : Verdict) (below : List Entry) (top : Entry) (highest path a : ℕ) (heads : Heads)
    → highest < length below → ProvisionalUse nodes verdict (below ++ top ∷ []) highest path a heads
    → ProvisionalUse nodes verdict below highest path a heads
pop_keeps_stored nodes verdict below top highest path a heads lower s = record {
  on_stack = lower;
  within = s.within;
  use_there = along nodes verdict below (path_through (below ++ top ∷ []) highest path)
      (path_through below highest path) a heads highest s.within
      (λ depth h. through_push below top highest path depth lower)
      (pop_keeps_use nodes verdict below top (path_through (below ++ top ∷ []) highest path) 0 a heads
      (unused_is_unreached nodes verdict below top (path_through (below ++ top ∷ []) highest path) 0 a heads
      (λ p c r. let le : length below ≤ highest = s.within (length below) p c r in omega arith) s.use_there)
      s.use_there);
}

-- It stays when an entry is run again of which it records no usage.
pub rerun_keeps_stored :
    (nodes : List Node) (verdict : Verdict) (below : List Entry) (top again : Entry) (highest path a : ℕ)
    (heads : Heads)
    → again.step ≡ top.step → IsSameOrFresh nodes below top again → UsesNo heads (length below)
    → ProvisionalUse nodes verdict (below ++ top ∷ []) highest path a heads
    → ProvisionalUse nodes verdict (below ++ again ∷ []) highest path a heads
rerun_keeps_stored nodes verdict below top again highest path a heads step new unused s =
    let on = s.on_stack in record {
      on_stack = omega (arith, length-append below (top ∷ []), length-append below (again ∷ []));
      within = s.within;
      use_there = along nodes verdict (below ++ again ∷ []) (path_through (below ++ top ∷ []) highest path)
          (path_through (below ++ again ∷ []) highest path) a heads highest s.within
          (λ depth h. through_same below top again highest path depth step)
          (rerun_keeps_use nodes verdict below top again (path_through (below ++ top ∷ []) highest path) 0 a heads new
          (unused_is_unreached nodes verdict below top
          (path_through (below ++ top ∷ []) highest path) 0 a heads unused s.use_there)
          s.use_there);
    }
