-- That families are those of metrics, and can be found by name.
use Rattle.std.specs.Prelude.{◌≡◌, ℕ, ◌%◌, ◌^◌, List, false, Some}
use Rattle.std.specs.List.{list_any}
use Rattle.otel_common.specs.Equality.{bytes_eq}
use Rattle.otel_prometheus.specs.Groups.{Member, Group, families_of, groups_of, names_of, sample_names_of, conflicting_among}
use Rattle.otel_prometheus.specs.Headings.{heading_of}
use Rattle.otel_prometheus.specs.declared.families.Groups.{Groups}
use Rattle.otel_prometheus.specs.declared.headings.Heading.{Heading}

-- the metric has this heading, whose name none of the families has
pub record IsNewName (g : Groups) (h : Heading) (x : Member) : Type 0 where
  pub heading : heading_of x.metric ≡ Some h
  pub absent : list_any (bytes_eq h.name) g.names.keys ≡ false

-- the families and their names are those of the metrics that were seen
pub record AreFound (groups : List Group) (named noted : List (List ℕ)) (seen : List Member) : Type 0 where
  pub list : groups ≡ groups_of seen
  pub names : named ≡ names_of (families_of seen)
  pub samples : (n : List ℕ) → list_any (bytes_eq n) noted ≡ list_any (bytes_eq n) (sample_names_of (families_of seen))

abbrev pub AreFamilies : Groups → List Member → Type 0
AreFamilies g seen = AreFound g.list.items g.names.keys g.sample_names.keys seen

pub record AreGroups (g : Groups) (seen : List Member) : Type 0 where
  pub families : AreFamilies g seen
  pub conflicting : g.conflicting ≡ conflicting_among seen % 2 ^ 64
