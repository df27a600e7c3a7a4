-- Runs of a goal on the stack.
use Rattle.std.proofs.Common.{◌≡◌, ◌≢◌, ℕ, ◌<◌, List, [], ◌∷◌, ◌++◌, Some, None, length, slice_get, arith, refl, ap}
use Rattle.std.proofs.Common.{sym, subst, ◌∙◌, inl, inr, length-append, false}
use Rattle.open_graphs.specs.Words.{Verdict, Neither, Edge, Node, Unfinished, Finished, Grown, Entry, IsLeaf, path_kind}
use Rattle.open_graphs.specs.Words.{Heads, Use, Running, IsStack, Answered, Again, Anew, Without, IsClosedGraph, UsesNo}
use Rattle.list_lemmas.proofs.Lists.{get_left, get_end, get_cases}
use Rattle.open_graphs.proofs.Keep.{append_grows, finish_grows, growth_keeps_use, heads_keep_use}
use Rattle.open_graphs.proofs.Finish.{finish_gives_use}
use Rattle.open_graphs.proofs.Store.{included}
use Rattle.open_graphs.proofs.Closed.{closed_is_graph}

-- the entries of a stack with one more, of another node in a longer list
pub push_is_stack : (nodes : List Node) (stack : List Entry) (entry : Entry) → IsStack nodes stack
    → entry.node < length (nodes ++ Unfinished ∷ []) → ¬ IsLeaf stack entry.node
    → IsStack (nodes ++ Unfinished ∷ []) (stack ++ entry ∷ [])
push_is_stack nodes stack entry s bound new = record {
  in_list = λ depth e at. elim (get_cases stack entry depth e at) [
    | inl at' ↦ let h = s.in_list depth e at' in omega (arith, length-append nodes (Unfinished ∷ []))
    | inr h ↦ subst (λ x. x.node < length (nodes ++ Unfinished ∷ [])) h.1 bound
  ];
  distinct = λ i j x y at at' same. elim (get_cases stack entry i x at) [
    | inl a ↦ elim (get_cases stack entry j y at') [
      | inl b ↦ s.distinct i j x y a b same
      | inr h ↦ absurd (new (i, x, a, same ∙ ap (λ z. z.node) (sym h.1)))
    ]
    | inr h ↦ elim (get_cases stack entry j y at') [
      | inl b ↦ absurd (new (j, y, b, sym same ∙ ap (λ z. z.node) (sym h.1)))
      | inr h' ↦ h.0 ∙ sym h'.0
    ]
  ];
}

pub pop_is_stack : (nodes : List Node) (below : List Entry) (top : Entry)
    → IsStack nodes (below ++ top ∷ []) → IsStack nodes below
pop_is_stack nodes below top s = record {
  in_list = λ depth e at. s.in_list depth e (get_left below (top ∷ []) depth e at);
  distinct = λ i j x y at at' same.
      s.distinct i j x y (get_left below (top ∷ []) i x at) (get_left below (top ∷ []) j y at') same;
}

pub not_leaf : (nodes : List Node) (stack : List Entry) → IsStack nodes stack → ¬ IsLeaf stack (length nodes)
not_leaf nodes stack s l = let h = s.in_list l.0 l.1 l.2 in let e = l.3 in absurd (omega arith)

-- A new entry gets a new node and begins its first run.
pub first_run_starts :
    (nodes : List Node) (stack : List Entry) (step : ℕ) (heads : Heads)
    → IsStack nodes stack
    → Running (nodes ++ Unfinished ∷ []) stack (record { step = step; provisional = None; node = length nodes })
    (length nodes) (λ verdict. []) heads heads
    × IsStack (nodes ++ Unfinished ∷ []) (stack ++ record { step = step; provisional = None; node = length nodes } ∷ [])
first_run_starts nodes stack step heads s = (
  record {
    unfinished = get_end nodes Unfinished;
    lower = not_leaf nodes stack s;
    which_run = inl (refl, refl);
    earlier = λ verdict definite e. absurd (cc);
    still = included heads;
    answered = λ verdict i edge e. absurd (cc);
  },
  push_is_stack nodes stack (record { step = step; provisional = None; node = length nodes }) s
      (omega (arith, length-append nodes (Unfinished ∷ []))) (not_leaf nodes stack s),
)

-- A run goes on while other nodes are appended and finished.
pub growth_keeps_running :
    (before after : List Node) (below : List Entry) (top : Entry) (own : ℕ) (edges : Verdict → List Edge)
    (heads_before heads : Heads)
    → Grown before after → slice_get after own ≡ Some Unfinished → Running before below top own edges heads_before heads
    → Running after below top own edges heads_before heads
growth_keeps_running before after below top own edges heads_before heads grown unfinished r = record {
  unfinished = unfinished;
  lower = r.lower;
  which_run = r.which_run;
  earlier = λ verdict definite e. growth_keeps_use before after verdict below (path_kind below top.step) 0 top.node
      heads_before grown (r.earlier verdict definite e);
  still = r.still;
  answered = λ verdict i edge e. let h = r.answered verdict i edge e in
      record {
        answer = h.answer;
        used = growth_keeps_use before after verdict (below ++ top ∷ []) (path_kind (below ++ top ∷ []) edge.kind)
            edge.kind edge.target h.answer grown h.used;
        among = h.among;
      };
}

pub answered_grows : (nodes : List Node) (top : Entry) (own : ℕ) (edges : Verdict → List Edge)
    (verdict : Verdict) {later : List Node} {a : ℕ}
    → slice_get nodes own ≡ Some Unfinished → Answered nodes top own edges verdict later a → Grown nodes later
answered_grows nodes top own edges verdict unfinished (Anew ne) =
    finish_grows nodes own (Finished verdict (edges verdict)) unfinished
answered_grows nodes top own edges verdict unfinished _ = λ b v es h. h

answered_use : (nodes : List Node) (below : List Entry) (top : Entry) (own : ℕ) (edges : Verdict → List Edge)
    (heads_before heads : Heads) (verdict : Verdict) {later : List Node} {a : ℕ} → verdict ≢ Neither
    → Answered nodes top own edges verdict later a → Running nodes below top own edges heads_before heads
    → Use later verdict below (path_kind below top.step) 0 a heads
answered_use nodes below top own edges heads_before heads verdict definite (Again e) r =
    heads_keep_use nodes verdict below (path_kind below top.step) (path_kind below top.step) 0 top.node heads_before
    heads r.still (λ d p c h. refl) (r.earlier verdict definite e)
answered_use nodes below top own edges heads_before heads verdict definite (Anew ne) r =
    finish_gives_use nodes verdict below top own (edges verdict) heads r.unfinished r.lower
    (elim r.which_run [ inl first ↦ inl first | inr later ↦ inr (later.0, later.1, ne) ])
    (r.answered verdict)
answered_use nodes below top own edges heads_before heads verdict definite (Without e) r = absurd (definite e)

-- A run that ended with a verdict gives a node that may be used below, with the heads of all runs.
pub run_gives_use :
    (nodes : List Node) (below : List Entry) (top : Entry) (own : ℕ) (edges : Verdict → List Edge)
    (heads_before heads : Heads) (verdict : Verdict) (later : List Node) (a : ℕ)
    → verdict ≢ Neither → Answered nodes top own edges verdict later a
    → Running nodes below top own edges heads_before heads
    → Grown nodes later × Use later verdict below (path_kind below top.step) 0 a heads
run_gives_use nodes below top own edges heads_before heads verdict later a definite answer r = (
  answered_grows nodes top own edges verdict r.unfinished answer,
  answered_use nodes below top own edges heads_before heads verdict definite answer r,
)

-- The goal is then run again under this result, with a new node and no answers.
pub next_run_starts :
    (nodes : List Node) (below : List Entry) (top : Entry) (verdict : Verdict) (a : ℕ) (heads : Heads)
    → IsStack nodes (below ++ top ∷ []) → a < length nodes → ¬ IsLeaf below a
    → (verdict ≢ Neither → Use nodes verdict below (path_kind below top.step) 0 a heads)
    → Running (nodes ++ Unfinished ∷ []) below (record { step = top.step; provisional = Some verdict; node = a })
    (length nodes) (λ verdict. []) heads heads
    × IsStack (nodes ++ Unfinished ∷ [])
    (below ++ record { step = top.step; provisional = Some verdict; node = a } ∷ [])
next_run_starts nodes below top verdict a heads s bound lower u =
    let under : IsStack nodes below = pop_is_stack nodes below top s in (
      record {
        unfinished = get_end nodes Unfinished;
        lower = not_leaf nodes below under;
        which_run = inr (λ e. absurd (omega arith), λ e. absurd (cc));
        earlier = λ v definite e. let same : verdict ≡ v = cc in
            subst (λ x. Use (nodes ++ Unfinished ∷ []) x below (path_kind below top.step) 0 a heads) same
            (growth_keeps_use nodes (nodes ++ Unfinished ∷ []) verdict below (path_kind below top.step) 0 a heads
            (append_grows nodes) (u (subst (λ x. x ≢ Neither) (sym same) definite)));
        still = included heads;
        answered = λ v i edge e. absurd (cc);
      },
      push_is_stack nodes below (record { step = top.step; provisional = Some verdict; node = a }) under
          (omega (arith, length-append nodes (Unfinished ∷ []))) lower,
    )

-- A use without heads may be used under any stack entries' path kinds and with any heads.
pub closed_gives_use :
    (nodes : List Node) (verdict : Verdict) (stack : List Entry) (from_head other : ℕ → ℕ) (front step a : ℕ)
    (heads any : Heads)
    → ((depth : ℕ) → UsesNo heads depth) → Use nodes verdict stack from_head front a heads
    → Use nodes verdict stack other step a any
closed_gives_use nodes verdict stack from_head other front step a heads any none u = record {
  open_graph = u.open_graph;
  covered = λ depth entry q on at p. absurd (none depth _ _ (u.covered depth entry q on at p).0);
}

-- Under an empty stack a use is a graph.
pub root_is_graph :
    (nodes : List Node) (verdict : Verdict) (from_head : ℕ → ℕ) (front a : ℕ) (heads : Heads)
    → Use nodes verdict [] from_head front a heads → IsClosedGraph nodes verdict a
root_is_graph nodes verdict from_head front a heads u =
    let empty : Heads = λ depth. record { paths = λ q. false; usages = λ c. 0 } in
    closed_is_graph nodes verdict [] from_head front a empty (λ depth p c h. h.1 refl)
    (record { open_graph = u.open_graph; covered = λ depth entry q on at p. absurd (cc) })
