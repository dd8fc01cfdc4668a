-- Members that are written one after another, and then closed.
use Rattle.std.proofs.Common.{◌≡◌, ℕ, List, [], ◌∷◌, ◌++◌, Option, Some, None, refl, sym, ap, ◌∙◌, append_assoc, append-nil}
use Rattle.json.specs.Json.{Json, Members, no_members, member}
use Rattle.json.specs.Token.{Token}
use Rattle.json.specs.Tree.{json_tokens, members_tokens}
use Rattle.otel_otlp.specs.Arrays.{members_front, optional}

-- the closing brace comes last
pub closed : (ms : Members) → members_tokens ms ≡ members_front ms ++ Token.end_object ∷ []
closed no_members = refl
closed (member k j ms) =
    ap (λ x. Token.key k ∷ (json_tokens j ++ x)) (closed ms)
    ∙ ap (λ x. Token.key k ∷ x) (sym (append_assoc (json_tokens j) (members_front ms) (Token.end_object ∷ [])))

-- a member that may be absent, and then the others
pub optional-tokens : (k : List ℕ) (o : Option Json) (rest : Members) → members_tokens (optional k o rest) ≡ members_front (optional k o no_members) ++ members_tokens rest
optional-tokens k None rest = refl
optional-tokens k (Some j) rest = ap (λ x. Token.key k ∷ (x ++ members_tokens rest)) (sym (append-nil (json_tokens j)))

-- some members, and then the others
abbrev pub joined_members : Members → Members → Members
joined_members no_members rest = rest
joined_members (member k j ms) rest = member k j (joined_members ms rest)

pub front_then : (ms rest : Members) → members_front ms ++ members_tokens rest ≡ members_tokens (joined_members ms rest)
front_then no_members rest = refl
front_then (member k j ms) rest =
    ap (λ x. Token.key k ∷ x) (append_assoc (json_tokens j) (members_front ms) (members_tokens rest))
    ∙ ap (λ x. Token.key k ∷ (json_tokens j ++ x)) (front_then ms rest)
