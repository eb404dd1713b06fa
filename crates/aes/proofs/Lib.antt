pub mod FastCipher
