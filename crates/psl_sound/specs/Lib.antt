pub mod SchemaOf
