use Rattle.std.proofs.Common.{◌*◌, length, subst}
use Rattle.graph_nodes.proofs.HeldBytes.{covers_first, covers_last}
use Rattle.heap_room.specs.Bytes.{CoversBytes}
use Rattle.global_cache.proofs.result_store.ResultStore.held_bytes.Goals as goal

pub returns : goal.returns
returns g c =
    subst (λ store. CoversBytes (length store * 8) c.saturating_add.result) c.self.view_is
    (covers_first _ _ _ _ (covers_last _ _ _ _ c.map_bytes.ensures) c.saturating_add.ensures)
