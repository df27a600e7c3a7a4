-- The names of a table, one behind another.
use Rattle.std.proofs.Common.{◌≡◌, ℕ, ◌+◌, ◌<◌, List, [], ◌∷◌, ◌++◌, length, take, get_or, sym, ap, ◌∙◌}
use Rattle.std.proofs.lemmas.List.{append_assoc, flat_map_more, take_more}
use Rattle.rule_arrays.specs.Rows.{names_text}

pub names_more : (names : List (List ℕ)) (number : ℕ) (text : List ℕ) → number < length names →
    text ≡ names_text (take number names) →
    (text ++ get_or names number []) ++ 10 ∷ [] ≡ names_text (take (number + 1) names)
names_more names number text within e =
    let name = get_or names number [] in
    append_assoc text name (10 ∷ []) ∙ ap (λ x. x ++ (name ++ 10 ∷ [])) e
    ∙ flat_map_more (λ x. x ++ 10 ∷ []) [] (take number names) name
    ∙ ap names_text (sym (take_more names number [] within))
