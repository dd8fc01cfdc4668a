-- Resources, their merge and their builders, as `otel_common` defines them.
pub use Rattle.otel_common.specs.declared.resource.Resource.{Resource}
pub use Rattle.otel_common.specs.Resources.{empty_resource, merged_url, merged_resource, value_at, resource_of, url_of, with_attributes, with_attribute, with_service_name, with_schema_url}
pub use Rattle.otel_common.specs.Resources.{OthersValuesWin, MergesAreCanonical, UrlsMergeFromTheLeft, UrlsMergeFromTheRight, GivenValuesWin, OwnValuesWin, GivenOneByOne}
