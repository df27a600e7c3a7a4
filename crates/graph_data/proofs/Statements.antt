-- A line says one thing.
use Rattle.std.proofs.Common.{◌≡◌, ◌∙◌, ℕ, ap, arith, Bool, codes, cond, false, get_or, List, [], ◌∷◌, nat_eq, refl}
use Rattle.std.proofs.Common.{subst, sym, true}
use Rattle.std.specs.List.{AllZip}
use Rattle.std.proofs.lemmas.List.Elements.{All-head}
use Rattle.line_texts.specs.Lines.{IsName, is_name_byte}
use Rattle.graph_data.proofs.Lists.{zip_one}
use Rattle.rule_tables.specs.Grammar.{Ask, head_word, IsAsk, IsQuestion, IsRule, letter_of, NamedQuestion, Nothing}
use Rattle.rule_tables.specs.Grammar.{Rule, Say, Statement}
use Rattle.path_kinds.specs.declared.path.PathKind.{PathKind}
use Rattle.path_kinds.specs.declared.path.PathKind.TheVariants.{Coinductive, ForcedAmbiguity, Inductive, Unknown}

kind_of : ℕ → PathKind
kind_of letter = cond (nat_eq letter 105) Inductive
    (cond (nat_eq letter 117) Unknown (cond (nat_eq letter 99) Coinductive ForcedAmbiguity))

kind_of-letter_of : (kind : PathKind) → kind_of (letter_of kind) ≡ kind
unfolding kind_of
kind_of-letter_of Inductive = refl
kind_of-letter_of Unknown = refl
kind_of-letter_of Coinductive = refl
kind_of-letter_of ForcedAmbiguity = refl

kind_told : (a b : PathKind) → letter_of a ≡ letter_of b → a ≡ b
kind_told a b same = sym (kind_of-letter_of a) ∙ ap kind_of same ∙ kind_of-letter_of b

question_by_parts : (a b : NamedQuestion) → a.kind ≡ b.kind → a.name ≡ b.name → a ≡ b
question_by_parts a b kind name =
    ap (λ k. record { kind = k; name = a.name }) kind ∙ ap (λ n. record { kind = b.kind; name = n }) name

question_same : (word : List ℕ) (a b : NamedQuestion) → IsQuestion word a → IsQuestion word b → a ≡ b
question_same word a b p q =
    let letter : letter_of a.kind ≡ letter_of b.kind = cc in
    let name : a.name ≡ b.name = cc in
    let kind = kind_told a.kind b.kind letter in
    question_by_parts a b kind name

no_mark : (name : List ℕ) → IsName (126 ∷ name) → ⊥
no_mark name is_name =
    let bad : false ≡ true = All-head (λ byte. is_name_byte byte ≡ true) 126 name is_name.bytes in absurd (cc)

head_same : (a b : Bool) (name other : List ℕ) → IsName name → IsName other
    → head_word a name ≡ head_word b other → (a ≡ b) × (name ≡ other)
head_same true true name other p q h = (refl, cc)
head_same true false name other p q h = absurd (no_mark name (subst IsName (sym h) q))
head_same false true name other p q h = absurd (no_mark other (subst IsName h p))
head_same false false name other p q h = (refl, h)

rule_same : (words : List (List ℕ)) (a b : Bool) (name other : List ℕ) (ps qs : List NamedQuestion)
    → IsRule words a name ps → IsRule words b other qs → Rule a name ps ≡ Rule b other qs
rule_same words a b name other ps qs p q =
    let spelled : codes "rule" ∷ head_word a name ∷ codes "=" ∷ p.asked
    ≡ codes "rule" ∷ head_word b other ∷ codes "=" ∷ q.asked = sym p.spelled ∙ q.spelled in
    let asked : q.asked ≡ p.asked = cc in
    let head : head_word a name ≡ head_word b other = cc in
    let both = head_same a b name other p.is_name q.is_name head in
    let questions = zip_one IsQuestion question_same p.asked ps qs p.are_questions
    (subst (λ words. AllZip IsQuestion words qs) asked q.are_questions) in
    ap (λ m. Rule m name ps) both.0 ∙ ap (λ n. Rule b n ps) both.1 ∙ ap (Rule b other) questions

ask_same : (words : List (List ℕ)) (m n : ℕ) (name other : List ℕ) → IsAsk words m name
    → IsAsk words n other → Ask m name ≡ Ask n other
ask_same words m n name other p q =
    let spelled : codes "ask" ∷ p.digits ∷ name ∷ [] ≡ codes "ask" ∷ q.digits ∷ other ∷ [] =
    sym p.spelled ∙ q.spelled in
    let digits : p.digits ≡ q.digits = cc in
    let names : name ≡ other = cc in
    let p_value = p.value in
    let q_value = q.value in
    let depth : m ≡ n = cc in
    ap (λ d. Ask d name) depth ∙ ap (Ask n) names

-- the byte with which a line's first word begins
abbrev first_byte : List (List ℕ) → ℕ
first_byte words = get_or (get_or words 0 []) 0 0

passed_over : (words others : List (List ℕ)) (word : List ℕ) → Say words Nothing
    → words ≡ word ∷ others → get_or word 0 0 ≡ 35
passed_over [] others word p h = absurd (cc)
passed_over (w ∷ words) others word p h = let first : w ≡ word = cc in ap (λ v. get_or v 0 0) (sym first ∙ p.1)

no_rule : (words : List (List ℕ)) (m : Bool) (name : List ℕ) (questions : List NamedQuestion)
    → Say words Nothing → IsRule words m name questions → ⊥
no_rule words m name questions p q =
    let bad : 114 ≡ 35 = passed_over words (head_word m name ∷ codes "=" ∷ q.asked) (codes "rule") p q.spelled in
    omega (arith, bad)

no_ask : (words : List (List ℕ)) (depth : ℕ) (name : List ℕ) → Say words Nothing → IsAsk words depth name → ⊥
no_ask words depth name p q =
    let bad : 97 ≡ 35 = passed_over words (q.digits ∷ name ∷ []) (codes "ask") p q.spelled in omega (arith, bad)

rule_or_ask : (words : List (List ℕ)) (m : Bool) (name : List ℕ) (questions : List NamedQuestion) (depth : ℕ)
    (other : List ℕ) → IsRule words m name questions → IsAsk words depth other → ⊥
rule_or_ask words m name questions depth other p q =
    let same : codes "rule" ∷ head_word m name ∷ codes "=" ∷ p.asked ≡ codes "ask" ∷ q.digits ∷ other ∷ [] =
    sym p.spelled ∙ q.spelled in
    let bad : 114 ≡ 97 = ap first_byte same in
    omega (arith, bad)

pub says_one : (words : List (List ℕ)) (s t : Statement) → Say words s → Say words t → s ≡ t
says_one words Nothing Nothing p q = refl
says_one words Nothing (Rule m name questions) p q = absurd (no_rule words m name questions p q)
says_one words Nothing (Ask depth name) p q = absurd (no_ask words depth name p q)
says_one words (Rule m name questions) Nothing p q = absurd (no_rule words m name questions q p)
says_one words (Rule m name questions) (Rule n other others) p q = rule_same words m n name other questions others p q
says_one words (Rule m name questions) (Ask depth other) p q =
    absurd (rule_or_ask words m name questions depth other p q)
says_one words (Ask depth name) Nothing p q = absurd (no_ask words depth name q p)
says_one words (Ask depth name) (Rule m other others) p q = absurd (rule_or_ask words m other others depth name q p)
says_one words (Ask m name) (Ask n other) p q = ask_same words m n name other p q
