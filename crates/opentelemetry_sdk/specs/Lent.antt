-- Lists of attributes, by who owns them.
use Rattle.std.specs.Prelude.{List, []}
use Rattle.otel_common.specs.declared.attributes.KeyValue.{KeyValue}
use Rattle.opentelemetry_sdk.specs.declared.calls.record_attributes.Owned.{Owned}
use Rattle.opentelemetry_sdk.specs.declared.calls.record_attributes.Owned.TheVariants as owned
use Rattle.opentelemetry_sdk.specs.declared.calls.record_attributes.SharedAttributes.{SharedAttributes}
use Rattle.opentelemetry_sdk.specs.declared.calls.record_attributes.SharedAttributes.TheVariants as shared

-- the list that is owned
abbrev pub owned_list : Owned → List KeyValue
owned_list owned.Empty = []
owned_list (owned.Alone items) = items
owned_list (owned.Shared items) = items
owned_list (owned.Lasting items) = items.now

-- the list that is shared out
abbrev pub shared_list : SharedAttributes → List KeyValue
shared_list shared.Empty = []
shared_list (shared.Counted items) = items.value
shared_list (shared.Lasting items) = items.now
