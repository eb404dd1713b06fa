pub mod Ingress
