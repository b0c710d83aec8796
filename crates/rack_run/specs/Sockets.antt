-- The sockets that a description needs of a rack, and those that its chips take. That each of its chips needs a socket of its kind is this
-- project's own.
use Rattle.std.specs.Prelude.{ℕ, ◌+◌, ◌==◌, nat_lt, not, ◌&&◌, if◌then◌else◌, List, [], ◌∷◌, ◌++◌, count_by, Option}
use Rattle.std.specs.Prelude.{Some, None}
use Rattle.std.specs.List.{list_any}
use Rattle.f8_spec.specs.ChipState.{same_kind}
use Rattle.f8_spec.specs.declared.chips.ChipKind.{ChipKind}
use Rattle.f8_spec.specs.declared.chips.ChipKind.TheVariants.{Psu, Smi, Pio}
use Rattle.chip_face.specs.Fitting.{kind_of}
use Rattle.chip_face.specs.declared.specification.ChipSpec.{ChipSpec}
use Rattle.rack_run.specs.declared.sockets.Shortage.{Shortage}

-- the sockets of a kind in a rack of chips of these kinds
abbrev pub sockets_of : ChipKind → List ChipKind → ℕ
sockets_of kind kinds = count_by (same_kind kind) kinds

-- the chips of a kind in a description
abbrev pub needed_of : ChipKind → List ChipSpec → ℕ
needed_of kind chips = count_by (λ c. same_kind kind (kind_of c)) chips

abbrev pub short_by : ChipKind → ℕ → ℕ → Option Shortage
short_by kind need have = if nat_lt have need then Some (record { kind = kind; need = need; have = have }) else None

-- a kind of which the description has more chips than there are sockets
abbrev pub shortage_in : ChipKind → List ChipSpec → List ChipKind → Option Shortage
shortage_in kind chips kinds = short_by kind (needed_of kind chips) (sockets_of kind kinds)

abbrev pub or_else : Option Shortage → Option Shortage → Option Shortage
or_else (Some shortage) other = Some shortage
or_else None other = other

-- the first such kind, of the 3851, the 3853 and the 3861 in this order
abbrev pub shortage_of : List ChipSpec → List ChipKind → Option Shortage
shortage_of chips kinds =
    or_else (shortage_in Psu chips kinds) (or_else (shortage_in Smi chips kinds) (shortage_in Pio chips kinds))

-- ---- the chain of a description

-- the first socket of a kind that is not in a chain, from a socket on whose kind is the first of these
abbrev pub free_socket : ChipKind → List ℕ → ℕ → List ChipKind → Option ℕ
free_socket kind chain socket [] = None
free_socket kind chain socket (k ∷ kinds) =
    if same_kind kind k && not (list_any (λ held. held == socket) chain) then Some socket else free_socket kind chain
    (socket + 1) kinds

abbrev pub with_socket : List ℕ → Option ℕ → List ℕ
with_socket chain None = chain
with_socket chain (Some socket) = chain ++ socket ∷ []

-- a chain with the sockets of more chips: each takes the first socket of its kind that no chip before it has
abbrev pub chain_with : List ChipKind → List ℕ → List ChipSpec → List ℕ
chain_with kinds chain [] = chain
chain_with kinds chain (chip ∷ chips) =
    chain_with kinds (with_socket chain (free_socket (kind_of chip) chain 0 kinds)) chips

-- The sockets of the chips described, in the order of the description, on a rack of chips of these kinds. So the k-th chip of a kind sits
-- in the k-th socket of that kind, as it is seated.
abbrev pub chain_of : List ChipSpec → List ChipKind → List ℕ
chain_of chips kinds = chain_with kinds [] chips
