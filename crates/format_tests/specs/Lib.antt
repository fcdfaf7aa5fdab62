pub mod WorkedClass
