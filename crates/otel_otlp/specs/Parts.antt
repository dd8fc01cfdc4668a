-- Parts of a text in JSON, and the tokens that they stand for.
use Rattle.std.specs.Prelude.{decimal}
use Rattle.json.specs.Token.{Token}
use Rattle.otel_otlp.specs.declared.parts.Part.{Part}
use Rattle.otel_otlp.specs.declared.parts.Part.TheVariants.{BeginObject, EndObject, BeginArray, EndArray, Key, Text, Truth, Natural}

abbrev pub part_token : Part → Token
part_token BeginObject = Token.begin_object
part_token EndObject = Token.end_object
part_token BeginArray = Token.begin_array
part_token EndArray = Token.end_array
part_token (Key s) = Token.key s.now
part_token (Text s) = Token.string s.now
part_token (Truth b) = Token.boolean b
part_token (Natural n) = Token.number (decimal n)
